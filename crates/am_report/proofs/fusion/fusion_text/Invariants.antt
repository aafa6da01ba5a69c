use Rattle.std.proofs.Common.{◌≡◌, ◌++◌, flat_map, take, codes}
use Rattle.byte_text.specs.Lines.{line_of}
use Rattle.am_report.specs.Fusion.{judged_line}
use Rattle.am_report.specs.Versions.{version_of, version_number}
use Rattle.am_report.proofs.fusion.fusion_text.Given as goal

abbrev pub invariant-loop-entry : goal.invariant-loop-entry
invariant-loop-entry l = l.text ≡ line_of (codes "alphamu fusion " ++ version_number (version_of l.weights)) ++ flat_map (judged_line l.weights) (take l.entry-index l.table)
