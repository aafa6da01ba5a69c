-- A report and a log that are to show together that no strategy wins more: the head, and each vector's width.
use Rattle.std.specs.Prelude.{ℕ, ◌+◌, ◌==◌, List, [], ◌∷◌, length, map, Option, None, Some, Result, Ok, Err, bytes_eq, if◌then◌else◌}
use Rattle.win_vectors.specs.Fronts.{Vector}
use Rattle.log_check.specs.declared.lines.LogLine.{LogLine}
use Rattle.log_texts.specs.Reading.{log_read}
use Rattle.am_report.specs.Head.{head_text}
use Rattle.am_report.specs.Reading.{ReadReportValue, report_read}
use Rattle.am_answer.specs.declared.root.Root.{Root}
use Rattle.am_answer.specs.declared.status.Place.TheVariants.{Head, Width}
use Rattle.am_answer.specs.declared.status.Status.{Status}
use Rattle.am_answer.specs.declared.status.Status.TheVariants.{BadLog, Refuted}
use Rattle.am_answer.specs.Judging.{report_or}
use Rattle.byte_text.specs.Steps.{◌>>=◌}

-- what is asked of a log: that it proves these vectors complete, by this many moves
pub record AuditValue : Type 0 where
  pub moves : ℕ
  pub vectors : List Vector
  pub lines : List LogLine

-- the vectors of a report
abbrev pub vectors_of : ReadReportValue → List Vector
vectors_of report = map (λ read. read.entry.vector) report.entries

-- the first vector that isn't so wide, counted from this number
abbrev pub first_other_width : ℕ → ℕ → List Vector → Option ℕ
first_other_width width number [] = None
first_other_width width number (vector ∷ vectors) =
    if length vector == width then first_other_width width (number + 1) vectors else Some number

-- what is asked, where no vector is at fault
abbrev pub unless_width_fault : AuditValue → Option ℕ → Result AuditValue Status
unless_width_fault audit None = Ok audit
unless_width_fault audit (Some number) = Err (Refuted number Width)

-- what is asked of a log for a report on these layouts, where its head is that of the files and its vectors have a bit for
-- each layout
unfoldable pub audit_of : Root → ReadReportValue → List LogLine → Result AuditValue Status
audit_of root report lines =
    if bytes_eq report.head (head_text root.board root.kept report.moves)
    then unless_width_fault (record { moves = report.moves; vectors = vectors_of report; lines = lines })
    (first_other_width (length root.kept.node.lefts) 1 (vectors_of report))
    else Err (Refuted 0 Head)

-- a log that was read, or the status of its fault
abbrev pub log_or : Result (List LogLine) ℕ → Result (List LogLine) Status
log_or (Ok lines) = Ok lines
log_or (Err line) = Err (BadLog line)

-- what the files ask of the log: the report's grammar, then the log's, then the report against the files
unfoldable pub audit_in : Root → List ℕ → List ℕ → Result AuditValue Status
audit_in root report log = do
  report ← report_or (report_read report)
  lines ← log_or (log_read log)
  audit_of root report lines
