use Rattle.std.proofs.Common.{◌≡◌, ◌++◌, flat_map, take}
use Rattle.page_report.specs.ReportPages.{dropped_pieces}
use Rattle.page_report.proofs.dropped.push_left_out.Given as goal

abbrev pub invariant-loop-layout : goal.invariant-loop-layout
invariant-loop-layout l = l.page ≡ l.initial.page ++ flat_map dropped_pieces (take l.layout-index l.dropped)
