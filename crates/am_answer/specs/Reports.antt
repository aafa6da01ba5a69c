-- What is written where a job is done.
use Rattle.std.specs.Prelude.{◌≡◌, ℕ, Bool, List, map, length, All, Result, Ok, Err}
use Rattle.std.specs.List.{AllZip}
use Rattle.strategy_games.specs.Plans.{IsFront}
use Rattle.strategy_games.specs.Choosing.{IsChosenPlan, IsBestCount, IsNamedCard, IsBestWeight, IsNamedByWeight}
use Rattle.strategy_tree.specs.Bridge.{bridge}
use Rattle.trick_rules.specs.Nodes.{NodeValue}
use Rattle.fusion_base.specs.Sampling.{card_vectors}
use Rattle.log_check.specs.declared.check.LogVerdict.TheVariants.{Yes}
use Rattle.log_check.specs.LogVerdicts.{IsLogVerdict}
use Rattle.log_texts.specs.LogText.{IsLogTextFor}
use Rattle.am_report.specs.Answers.{SolveAnswerValue}
use Rattle.am_report.specs.Card.{card_text}
use Rattle.am_report.specs.Check.{check_text}
use Rattle.am_report.specs.Audit.{audit_text}
use Rattle.am_report.specs.declared.boards.GameText.{GameText}
use Rattle.am_report.specs.declared.boards.GameText.TheVariants.{Solved, Refused}
use Rattle.am_report.specs.Boards.{boards_text}
use Rattle.am_report.specs.Fusion.{fusion_text}
use Rattle.am_report.specs.LayoutFile.{list_text}
use Rattle.am_report.specs.Made.{made_text}
use Rattle.am_report.specs.Solve.{solve_text}
use Rattle.am_answer.specs.declared.root.Root.{Root}
use Rattle.am_answer.specs.declared.status.Status.{Status}
use Rattle.am_answer.specs.Tasks.{TaskValue, Solve, Card, Match, Fusion, Prove, Audit, Check, Made, Boards}
use Rattle.am_answer.specs.Tasks as tasks
use Rattle.am_answer.specs.Auditing.{AuditValue}
use Rattle.am_answer.specs.Lines.{said_of}
use Rattle.am_answer.specs.ReportOrder.{IsReportedFront}
use Rattle.am_answer.specs.Matches.{IsMatchText}
use Rattle.am_match.specs.Defences.{Sitter}

-- the vectors of the front in report order, each with the plan that is chosen for it; the named card; and the best weight
pub record IsSolveAnswer (n : NodeValue) (weights : List ℕ) (moves : ℕ) (found : SolveAnswerValue) : Type 0 where
  pub vectors : IsReportedFront n weights moves (map (λ e. e.vector) found.entries)
  pub plans : All (λ e. IsChosenPlan bridge e.plan n moves e.vector) found.entries
  pub card : IsNamedByWeight bridge weights n moves found.card
  pub weight : IsBestWeight bridge weights n moves found.weight

-- the report of a root: no number of workers, size of a table or rule of cuts stands in it
abbrev pub IsSolveText : Root → ℕ → List ℕ → Type 0
IsSolveText root moves text = (found : SolveAnswerValue) × IsSolveAnswer root.kept.node root.kept.weights moves found
    × (text ≡ solve_text root.board root.kept moves found)

-- the card to play, and its weight among those of the kept layouts
abbrev pub IsCardText : Root → ℕ → List ℕ → Type 0
IsCardText root moves text = (card weight : ℕ) × IsNamedByWeight bridge root.kept.weights root.kept.node moves card
    × IsBestWeight bridge root.kept.weights root.kept.node moves weight
    × (text ≡ card_text card weight root.kept.weights)

-- the moves of a problem that is made from a number
abbrev pub made_moves : ℕ
made_moves = 3

-- the number, the kept layouts, the length of the front, the best count and the named card
abbrev pub IsMadeText : ℕ → Root → ℕ → List ℕ → Type 0
IsMadeText number root moves text = (vectors : List (List Bool)) × (card count : ℕ) × IsFront bridge root.kept.node moves vectors
    × IsNamedCard bridge root.kept.node moves card × IsBestCount bridge root.kept.node moves count
    × (text ≡ made_text (record { number = number; layouts = length root.kept.node.lefts; front = length vectors; best = count; card = card }))

-- the log of a root by this many moves
abbrev pub IsProveText : Root → ℕ → List ℕ → Type 0
IsProveText root moves text = IsLogTextFor root.kept.node moves text

-- that a log proves a report's vectors complete
abbrev pub IsAuditText : Root → AuditValue → List ℕ → Type 0
IsAuditText root audit text = IsLogVerdict root.kept.node audit.moves audit.vectors audit.lines Yes
    × (text ≡ audit_text (length audit.lines))

-- the outcome of a game: the report of its root, or the line that says why it has none
abbrev pub IsGameText : ℕ → Result Root Status → GameText → Type 0
IsGameText moves (Ok root) (Solved text) = IsSolveText root moves text
IsGameText moves (Err status) (Refused said) = said ≡ said_of status
IsGameText moves _ _ = ⊥

-- the outcomes of all games, in order
abbrev pub IsBoardsText : List (Result Root Status) → ℕ → List ℕ → Type 0
IsBoardsText roots moves text = (games : List GameText) × AllZip (IsGameText moves) roots games × (text ≡ boards_text games)

-- the text of a job that asks no defender for a card
abbrev pub IsText : TaskValue → List ℕ → Type 0
IsText (Solve root moves search) text = IsSolveText root moves text
IsText (Card root moves search) text = IsCardText root moves text
IsText (Match root moves search playing) text = ⊥
IsText (Fusion root) text = text ≡ fusion_text (card_vectors root.kept.node) root.kept.weights
IsText (Prove root moves nodes) text = IsProveText root moves text
IsText (Audit root audit) text = IsAuditText root audit text
IsText (Check plans) text = text ≡ check_text plans
IsText (tasks.List board layouts) text = text ≡ list_text board layouts
IsText (Made number root search) text = IsMadeText number root made_moves text
IsText (Boards roots moves search) text = IsBoardsText roots moves text

-- the text of a job at a table of defenders, and the table after it
abbrev pub IsTextAt : TaskValue → List Sitter → List Sitter → List ℕ → Type 0
IsTextAt (Match root moves search playing) table later text = IsMatchText root moves playing table later text
IsTextAt task table later text = IsText task text
