use Rattle.exact_cards.proofs.AllPlanned.{all_planned}
use Rattle.exact_cards.proofs.laws.all_is_planned.Goals as goal

pub returns : goal.returns
returns c = all_planned
