use Rattle.std.proofs.Common.{take}
use Rattle.page_report.specs.BesideLines.{BesideFrom}
use Rattle.page_report.proofs.besides.each_beside.Given as goal

abbrev pub invariant-loop-place : goal.invariant-loop-place
invariant-loop-place l = BesideFrom l.first.entry.plan 2 (take l.place l.later) l.besides.items
