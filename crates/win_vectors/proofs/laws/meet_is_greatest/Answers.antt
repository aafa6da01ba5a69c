use Rattle.win_vectors.proofs.Orders.{Dominates-meet_left, Dominates-meet_right, meet_of-greatest}
use Rattle.win_vectors.proofs.laws.meet_is_greatest.Goals as goal

pub returns : goal.returns
returns c = record { first = Dominates-meet_left; second = Dominates-meet_right; greatest = meet_of-greatest }
