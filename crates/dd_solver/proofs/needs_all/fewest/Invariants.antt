use Rattle.std.proofs.Common.{length}
use Rattle.card_sets.specs.SetWords.{IsSubset}
use Rattle.dd_solver.specs.NeedsAll.{DoOutlast}
use Rattle.dd_solver.proofs.needs_all.fewest.Given as goal

abbrev pub invariant-loop-card : goal.invariant-loop-card
invariant-loop-card l = record { outlast : DoOutlast l.hands l.kept l.tricks; within : IsSubset l.kept l.fn.stoppers }

abbrev pub decreases-loop-card : goal.decreases-loop-card
decreases-loop-card l = length l.rest
