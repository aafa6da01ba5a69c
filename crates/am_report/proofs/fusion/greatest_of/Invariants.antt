use Rattle.std.proofs.Common.{◌≡◌, take}
use Rattle.am_report.specs.Fusion.{greatest_of}
use Rattle.am_report.proofs.fusion.greatest_of.Given as goal

abbrev pub invariant-loop-entry : goal.invariant-loop-entry
invariant-loop-entry l = l.greatest ≡ greatest_of l.weights (take l.entry-index l.table)
