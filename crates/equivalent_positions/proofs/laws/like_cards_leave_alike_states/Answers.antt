use Rattle.equivalent_positions.proofs.Cards.{alike_after}
use Rattle.equivalent_positions.proofs.laws.like_cards_leave_alike_states.Goals as goal

pub returns : goal.returns
returns c = λ counting s t card other closed ok ok' a legal legal' like settles. alike_after counting closed s t ok ok' a card other legal legal' like settles
