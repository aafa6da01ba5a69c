use Rattle.std.proofs.Common.{length}
use Rattle.equal_cards.proofs.Kept.{IsKeptOf}
use Rattle.equal_cards.proofs.equals.one_of_equals.Given as goal

abbrev pub invariant-loop-card : goal.invariant-loop-card
invariant-loop-card l = IsKeptOf l.node l.rest l.kept

abbrev pub decreases-loop-card : goal.decreases-loop-card
decreases-loop-card l = length l.rest
