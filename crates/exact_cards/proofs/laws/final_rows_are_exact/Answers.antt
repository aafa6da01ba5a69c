use Rattle.exact_cards.proofs.Exact.{rows_exact}
use Rattle.exact_cards.proofs.laws.final_rows_are_exact.Goals as goal

pub returns : goal.returns
returns c = rows_exact
