use Rattle.exact_cards.proofs.Exact.{rows_bracket}
use Rattle.exact_cards.proofs.laws.exact_rows_bracket.Goals as goal

pub returns : goal.returns
returns c = rows_bracket
