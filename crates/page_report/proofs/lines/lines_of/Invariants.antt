use Rattle.std.proofs.Common.{take}
use Rattle.page_report.specs.ReportPages.{AreLines}
use Rattle.page_report.proofs.lines.lines_of.Given as goal

abbrev pub invariant-loop-place : goal.invariant-loop-place
invariant-loop-place l = AreLines l.declarer l.node (take l.place l.entries) l.lines.items
