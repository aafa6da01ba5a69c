use Rattle.std.proofs.Common.{◌≡◌, ◌++◌, flat_map, take}
use Rattle.am_report.specs.Head.{dropped_line}
use Rattle.am_report.proofs.head.push_dropped.Given as goal

abbrev pub invariant-loop-layout : goal.invariant-loop-layout
invariant-loop-layout l = l.text ≡ l.initial.text ++ flat_map dropped_line (take l.layout-index l.dropped)
