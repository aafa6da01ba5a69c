-- How a report is read: the version, the head, the front with its plans, the card to play and the end. The first fault is the answer.
use Rattle.std.specs.Prelude.{◌≡◌, ℕ, zero, suc, ◌+◌, ◌-◌, ◌++◌, Bool, List, [], ◌∷◌, length, take, drop, find, Option, Some, None, option_and_then, Result, Ok, Err, ok_or, if◌then◌else◌, codes}
use Rattle.std.specs.Option.{option_map, is_some}
use Rattle.std.specs.List.{slice_split, filter_map, range_with_len}
use Rattle.strategy_games.specs.Plans.{Plan as PlanValue}
use Rattle.strategy_tree.specs.declared.plan_reader.PlanFault.{PlanFault}
use Rattle.strategy_tree.specs.declared.plan_reader.PlanFault.TheVariants as plan_faults
use Rattle.byte_text.specs.Lines.{line_of, line_number, text_after, said_at, is_line_end}
use Rattle.byte_text.specs.Steps.{◌>>=◌}
use Rattle.strategy_tree.specs.PlanRead.{plan_read}
use Rattle.am_report.specs.declared.fault.ReportKind.{ReportKind}
use Rattle.am_report.specs.declared.fault.ReportKind.TheVariants as kinds
use Rattle.am_report.specs.declared.fault.ReportFault.{ReportFault}
use Rattle.am_report.specs.declared.fault.ReportFault.TheVariants as faults
use Rattle.am_report.specs.declared.reading.Head.{Head}
use Rattle.am_report.specs.declared.reading.ReadReport.{ReadReport}
use Rattle.am_report.specs.declared.version.Version.{Version}
use Rattle.am_report.specs.declared.version.Version.TheVariants.{Counts, Weights}
use Rattle.am_report.specs.Versions.{version_number}
use Rattle.am_report.specs.Answers.{ReadEntryValue}
use Rattle.am_report.specs.ReportLines.{front_said, moves_said, vector_said, card_said}

-- what a report says: its version, the text of its head, the moves, the front with its plans, the card to play, and
-- how many layouts make the contract, or their weight
pub record ReadReportValue : Type 0 where
  pub version : Version
  pub head : List ℕ
  pub moves : ℕ
  pub entries : List ReadEntryValue
  pub card : ℕ
  pub weight : ℕ

-- ---- lines by their numbers

-- the number of the line after that of the last byte
abbrev pub line_after_last : List ℕ → ℕ
line_after_last bytes = line_number bytes (length bytes - 1) + 1

-- what has to be at a place
abbrev pub expected : {A : Type 0} → ReportKind → List ℕ → ℕ → Option A → Result A (ℕ × ReportKind)
expected kind bytes at None = Err (line_number bytes at, kind)
expected kind bytes at (Some x) = Ok x

-- ---- the head

-- whether line 1 is that of a version
abbrev pub has_version : Version → List ℕ → Bool
has_version version bytes = is_some (text_after (line_of (codes "alphamu report " ++ version_number version)) bytes)

-- the version that line 1 gives
unfoldable pub version_said : List ℕ → Option Version
version_said bytes = if has_version Counts bytes then Some Counts else if has_version Weights bytes then Some Weights else None

-- whether a line that begins with `front ` follows the line end at a place
abbrev pub is_front : List ℕ → ℕ → Bool
is_front bytes at = is_some (text_after (10 ∷ codes "front ") (drop at bytes))

-- the place of the first line that begins with `front `
unfoldable pub front_place : List ℕ → Option ℕ
front_place bytes = option_map (λ end. end + 1) (find (is_front bytes) (range_with_len 0 (length bytes)))

-- the number of a list that has no other
abbrev pub only : List ℕ → Option ℕ
only (number ∷ []) = Some number
only _ = None

-- the number of moves, where exactly one line gives it
unfoldable pub moves_of_head : List ℕ → Option ℕ
moves_of_head head = only (filter_map moves_said (slice_split is_line_end head))

-- the head above the front, with the number of vectors
unfoldable pub head_said : List ℕ → ℕ → Option Head
head_said bytes at =
    option_and_then (λ moves. option_map (λ front. record { place = at; moves = moves; vectors = front.0; next = front.1 }) (said_at front_said bytes at))
    (moves_of_head (take at bytes))

abbrev pub head_above : List ℕ → Option ℕ → Result Head (ℕ × ReportKind)
head_above bytes None = Err (line_after_last bytes, kinds.Head)
head_above bytes (Some at) = expected kinds.Head bytes at (head_said bytes at)

unfoldable pub head_read : List ℕ → Result Head (ℕ × ReportKind)
head_read bytes = head_above bytes (front_place bytes)

-- ---- the front

-- a plan's fault, by its line
abbrev pub report_fault : List ℕ → PlanFault → ReportFault
report_fault bytes (plan_faults.Line at) = faults.Fault (line_number bytes at) kinds.Plan
report_fault bytes (plan_faults.Deep at) = faults.Fault (line_number bytes at) kinds.TooDeep
report_fault bytes plan_faults.Memory = faults.Memory

-- a plan, or its fault by its line; no text asks for memory
abbrev pub plan_or_fault : List ℕ → Result (PlanValue ℕ × ℕ) PlanFault → Result (PlanValue ℕ × ℕ) (ℕ × ReportKind)
plan_or_fault bytes (Ok read) = Ok read
plan_or_fault bytes (Err (plan_faults.Line at)) = Err (line_number bytes at, kinds.Plan)
plan_or_fault bytes (Err (plan_faults.Deep at)) = Err (line_number bytes at, kinds.TooDeep)
plan_or_fault bytes (Err plan_faults.Memory) = Err (0, kinds.Plan)

-- a vector with its weight and its plan, and the place after them
unfoldable pub entry_read : Version → List ℕ → ℕ → Result (ReadEntryValue × ℕ) (ℕ × ReportKind)
entry_read version bytes at = do
  said ← expected kinds.Vector bytes at (said_at (vector_said version) bytes at)
  plan ← plan_or_fault bytes (plan_read bytes said.1)
  Ok (record { entry = record { vector = said.0.0; plan = plan.0 }; weight = said.0.1 }, plan.1)

-- this many of them, and the place after them
abbrev pub entries_read : Version → ℕ → List ℕ → ℕ → Result (List ReadEntryValue × ℕ) (ℕ × ReportKind)
entries_read version zero bytes at = Ok ([], at)
entries_read version (suc count) bytes at = do
  entry ← entry_read version bytes at
  later ← entries_read version count bytes entry.1
  Ok (entry.0 ∷ later.0, later.1)

-- ---- the whole

abbrev pub nothing_more : List ℕ → ℕ → Option (List ℕ) → Result (Unit {0}) (ℕ × ReportKind)
nothing_more bytes at None = Err (line_number bytes at, kinds.End)
nothing_more bytes at (Some []) = Ok tt
nothing_more bytes at (Some (byte ∷ more)) = Err (line_number bytes (at + 4), kinds.End)

-- the line `end`, and nothing after it
unfoldable pub end_read : List ℕ → ℕ → Result (Unit {0}) (ℕ × ReportKind)
end_read bytes at = nothing_more bytes at (text_after (line_of (codes "end")) (drop at bytes))

-- what follows the version
unfoldable pub below_read : Version → List ℕ → Result ReadReportValue (ℕ × ReportKind)
below_read version bytes = do
  head ← head_read bytes
  front ← entries_read version head.vectors bytes head.next
  said ← expected kinds.Card bytes front.1 (said_at (card_said version) bytes front.1)
  ended ← end_read bytes said.1
  Ok (record {
    version = version;
    head = take head.place bytes;
    moves = head.moves;
    entries = front.0;
    card = said.0.0;
    weight = said.0.1;
  })

-- what a report says, or its first fault with its line
unfoldable pub report_read : List ℕ → Result ReadReportValue (ℕ × ReportKind)
report_read bytes = do
  version ← ok_or (version_said bytes) (1, kinds.Version)
  below_read version bytes

-- ---- what the reader gives

-- a report in memory
abbrev pub report_of : ReadReport → ReadReportValue
report_of report = record {
  version = report.version;
  head = report.head;
  moves = report.moves;
  entries = report.entries.items;
  card = report.card;
  weight = report.weight;
}

-- the fault that was found, or memory ran out
abbrev pub IsReportFaultOf : {A : Type 0} → ReportFault → Result A (ℕ × ReportKind) → Type 0
IsReportFaultOf faults.Memory read = Unit {0}
IsReportFaultOf (faults.Fault line kind) read = read ≡ Err (line, kind)

-- what was read, or the fault
abbrev pub GivesReport : {A : Type 0} → Result A ReportFault → Result A (ℕ × ReportKind) → Type 0
GivesReport (Ok x) read = read ≡ Ok x
GivesReport (Err fault) read = IsReportFaultOf fault read
