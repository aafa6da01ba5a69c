use Rattle.card_brackets.proofs.Bounded.{rows_bracket}
use Rattle.card_brackets.proofs.laws.weight_stays_between.Goals as goal

pub returns : goal.returns
returns c = rows_bracket
