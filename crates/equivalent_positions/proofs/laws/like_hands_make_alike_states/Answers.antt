use Rattle.equivalent_positions.proofs.Counting.{like_hands_make_alike_states}
use Rattle.equivalent_positions.proofs.laws.like_hands_make_alike_states.Goals as goal

pub returns : goal.returns
returns c = like_hands_make_alike_states
