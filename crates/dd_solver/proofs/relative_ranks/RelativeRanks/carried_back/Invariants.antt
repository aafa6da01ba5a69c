use Rattle.std.proofs.Common.{length}
use Rattle.dd_solver.proofs.GapAfterGap.{AreCarriedBack}
use Rattle.dd_solver.proofs.relative_ranks.RelativeRanks.carried_back.Given as goal

abbrev pub invariant-loop-gap : goal.invariant-loop-gap
invariant-loop-gap l = AreCarriedBack l.fn.self.gaps l.rest l.answer.counting l.counting

abbrev pub decreases-loop-gap : goal.decreases-loop-gap
decreases-loop-gap l = length l.rest
