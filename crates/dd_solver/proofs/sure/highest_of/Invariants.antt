use Rattle.std.proofs.Common.{length}
use Rattle.dd_solver.proofs.Highest.{AreLeft}
use Rattle.dd_solver.proofs.sure.highest_of.Given as goal

abbrev pub invariant-loop-low : goal.invariant-loop-low
invariant-loop-low l = AreLeft l.fn.hand l.fn.suit l.many l.rest

abbrev pub decreases-loop-low : goal.decreases-loop-low
decreases-loop-low l = length l.rest
