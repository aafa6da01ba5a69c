use Rattle.std.proofs.Common.{length}
use Rattle.assured_fronts.proofs.LastMove.{LastLeft}
use Rattle.assured_fronts.proofs.last.last_move.Given as goal

abbrev pub invariant-loop-card : goal.invariant-loop-card
invariant-loop-card l = LastLeft l.node l.cards l.front

abbrev pub decreases-loop-card : goal.decreases-loop-card
decreases-loop-card l = length l.cards
