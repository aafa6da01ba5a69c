use Rattle.std.proofs.Common.{◌≡◌, ◌++◌, flat_map, take}
use Rattle.am_report.specs.LayoutFile.{layout_line}
use Rattle.am_report.proofs.list.push_layouts.Given as goal

abbrev pub invariant-loop-layout : goal.invariant-loop-layout
invariant-loop-layout l = l.text ≡ l.initial.text ++ flat_map (layout_line l.board) (take l.layout-index l.layouts)
