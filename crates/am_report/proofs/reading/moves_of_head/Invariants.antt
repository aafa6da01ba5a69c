use Rattle.std.proofs.Common.{◌≡◌, ◌++◌}
use Rattle.std.specs.Prelude.{option_to_list}
use Rattle.std.specs.Option.{option_map}
use Rattle.std.specs.List.{slice_split, filter_map}
use Rattle.byte_text.specs.Lines.{is_line_end}
use Rattle.am_report.specs.ReportLines.{moves_said}
use Rattle.am_report.proofs.ReportSteps.{moves_left, size_left}
use Rattle.am_report.proofs.reading.moves_of_head.Given as goal

-- the number found so far comes before those in the lines left
abbrev pub invariant-lines : goal.invariant-lines
invariant-lines l = filter_map moves_said (slice_split is_line_end l.head) ≡ option_to_list l.found ++ moves_left (option_map (λ text. text.now) l.rest)

abbrev pub decreases-lines : goal.decreases-lines
decreases-lines l = size_left (option_map (λ text. text.now) l.rest)
