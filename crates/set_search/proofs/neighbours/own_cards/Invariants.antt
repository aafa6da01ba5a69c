use Rattle.std.proofs.Common.{length}
use Rattle.set_search.proofs.LeftOut.{AreKept}
use Rattle.set_search.proofs.neighbours.own_cards.Given as goal

abbrev pub invariant-loop-card : goal.invariant-loop-card
invariant-loop-card l = AreKept l.position l.rest l.kept

abbrev pub decreases-loop-card : goal.decreases-loop-card
decreases-loop-card l = length l.rest
