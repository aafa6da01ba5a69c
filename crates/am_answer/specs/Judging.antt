-- A report that is judged: its head, then each plan with its vector.
use Rattle.std.specs.Prelude.{ℕ, ◌+◌, ◌==◌, not, List, [], ◌∷◌, length, Option, None, Some, Result, Ok, Err, bytes_eq, if◌then◌else◌}
use Rattle.win_vectors.specs.Fronts.{Vector}
use Rattle.win_vectors.specs.Weights.{weight_of}
use Rattle.trick_rules.specs.Nodes.{NodeValue}
use Rattle.strategy_games.specs.Plans.{wins_vector}
use Rattle.strategy_games.specs.Misfits.{first_misfit}
use Rattle.strategy_tree.specs.Bridge.{bridge}
use Rattle.am_report.specs.declared.fault.ReportKind.{ReportKind}
use Rattle.am_report.specs.Answers.{ReadEntryValue}
use Rattle.am_report.specs.Head.{head_text}
use Rattle.am_report.specs.Reading.{ReadReportValue, report_read}
use Rattle.am_answer.specs.declared.root.Root.{Root}
use Rattle.am_answer.specs.declared.status.Place.{Place}
use Rattle.am_answer.specs.declared.status.Place.TheVariants.{Head, Width, Weight, Node, Layout}
use Rattle.am_answer.specs.declared.status.Status.{Status}
use Rattle.am_answer.specs.declared.status.Status.TheVariants.{BadReport, Refuted}
use Rattle.byte_text.specs.Steps.{◌>>=◌}

-- the first layout, counted from this number, where two vectors differ, with the first vector's bit
abbrev pub first_difference : ℕ → Vector → Vector → Option Place
first_difference number (own ∷ rest) (given ∷ others) =
    if own then (if given then first_difference (number + 1) rest others else Some (Layout number own))
    else if given then Some (Layout number own) else first_difference (number + 1) rest others
first_difference number _ _ = None

-- the first node of the plan that doesn't fit; where it is a strategy, the first layout that it wins and the vector
-- doesn't, or the other way round
abbrev pub plan_fault : Option ℕ → Vector → Vector → Option Place
plan_fault (Some node) won vector = Some (Node node)
plan_fault None won vector = first_difference 1 won vector

-- a vector that isn't as wide as there are kept layouts, or a number behind it that isn't its weight, or a fault of its plan
unfoldable pub entry_fault : NodeValue → List ℕ → ℕ → ReadEntryValue → Option Place
entry_fault node weights moves read =
    if not (length read.entry.vector == length node.lefts) then Some Width
    else if not (read.weight == weight_of weights read.entry.vector) then Some Weight
    else plan_fault (first_misfit bridge ◌==◌ read.entry.plan node moves) (wins_vector bridge read.entry.plan node) read.entry.vector

-- what is found at this plan, or else at the later ones
abbrev pub or_later_plan : ℕ → Option Place → Option (ℕ × Place) → Option (ℕ × Place)
or_later_plan number None later = later
or_later_plan number (Some place) later = Some (number, place)

-- the first plan at fault, counted from this number, and where
abbrev pub first_plan_fault : NodeValue → List ℕ → ℕ → ℕ → List ReadEntryValue → Option (ℕ × Place)
first_plan_fault node weights moves number [] = None
first_plan_fault node weights moves number (read ∷ later) =
    or_later_plan number (entry_fault node weights moves read) (first_plan_fault node weights moves (number + 1) later)

-- this many plans, where none is at fault
abbrev pub unless_plan_fault : ℕ → Option (ℕ × Place) → Result ℕ Status
unless_plan_fault plans None = Ok plans
unless_plan_fault plans (Some found) = Err (Refuted found.0 found.1)

-- the number of plans of a report on these layouts, where its head is that of the files and each plan wins its vector
unfoldable pub judged : Root → ReadReportValue → Result ℕ Status
judged root report =
    if bytes_eq report.head (head_text root.board root.kept report.moves)
    then unless_plan_fault (length report.entries) (first_plan_fault root.kept.node root.kept.weights report.moves 1 report.entries)
    else Err (Refuted 0 Head)

-- a report that was read, or the status of its fault
abbrev pub report_or : Result ReadReportValue (ℕ × ReportKind) → Result ReadReportValue Status
report_or (Ok report) = Ok report
report_or (Err fault) = Err (BadReport fault.0 fault.1)

-- the number of plans of a report, all of which are good
unfoldable pub plans_in : Root → List ℕ → Result ℕ Status
plans_in root bytes = do
  report ← report_or (report_read bytes)
  judged root report
