use Rattle.std.proofs.Common.{length}
use Rattle.am_match.proofs.Choosing.{IsLastSoFar}
use Rattle.am_match.proofs.styles.last_of.Given as goal

abbrev pub invariant-loop-card : goal.invariant-loop-card
invariant-loop-card l = IsLastSoFar l.fn.cards l.last l.rest

abbrev pub decreases-loop-card : goal.decreases-loop-card
decreases-loop-card l = length l.rest
