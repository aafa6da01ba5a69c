use Rattle.std.proofs.Common.{◌≡◌, ℕ, List, ◌++◌, length}
use Rattle.dd_solver.proofs.GapAfterGap.{AreClosing}
use Rattle.dd_solver.proofs.relative_ranks.RelativeRanks.of.Given as goal

abbrev pub invariant-loop-gap : goal.invariant-loop-gap
invariant-loop-gap l = (closed : List ℕ) × (closed ++ l.rest ≡ l.gaps) × AreClosing l.first closed l.rest l.key

abbrev pub decreases-loop-gap : goal.decreases-loop-gap
decreases-loop-gap l = length l.rest
