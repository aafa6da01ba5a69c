use Rattle.plan_finder.proofs.PartsAbove.{TakesAbove}
use Rattle.plan_finder.proofs.above.part_above.Given as goal

abbrev pub invariant-loop-vector : goal.invariant-loop-vector
invariant-loop-vector l = TakesAbove l.target l.vector-items l.vector-index l.front.width l.part
