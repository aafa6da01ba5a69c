-- How a run may end, and what it has written by then.
use Rattle.std.specs.Prelude.{◌≡◌, ◌⊎◌, ◌++◌, ◌+◌, ⊤, ℕ, false, List, take, slice_get, All, Option, Some, IfSome, IsSomeAnd, Result, Ok, Err, IfOk}
use Rattle.std.specs.Io.KnownBytes.{append_known}
use Rattle.am_outside.specs.Faults.{Rose}
use Rattle.am_outside.specs.Shelf.{Files}
use Rattle.am_outside.specs.Sink.{AppendsPart}
use Rattle.trick_rules.specs.Nodes.{NodeValue}
use Rattle.job_words.specs.declared.asks.Search.{Search}
use Rattle.job_words.specs.Asks.{AskValue}
use Rattle.strategy_tree.specs.RootTrees.{IsSpentAt, IsFirstSpentAt, AllFit}
use Rattle.log_check.specs.declared.check.LogVerdict.TheVariants.{Yes, No}
use Rattle.log_check.specs.LogVerdicts.{IsLogVerdict}
use Rattle.am_answer.specs.declared.status.FileWord.{FileWord}
use Rattle.am_answer.specs.declared.status.Status.{Status}
use Rattle.am_answer.specs.declared.status.Status.TheVariants.{Done, Unread, Spent, Unwritten, Memory, Unproved, GameSpent}
use Rattle.am_answer.specs.declared.root.Root.{Root}
use Rattle.am_answer.specs.Answers.{made_in}
use Rattle.am_answer.specs.Tasks.{TaskValue, Solve, Card, Match, Prove, Audit, Made, Boards}
use Rattle.am_answer.specs.Files.{IsNameOf}
use Rattle.am_answer.specs.Reports.{IsTextAt, made_moves}
use Rattle.am_match.specs.Defences.{Sitter}

-- ---- how a job ends

-- a search that has neither a table nor cuts: each card is searched to its end, and nothing is known before
abbrev pub IsPlain : Search → Type 0
IsPlain search = (search.table ≡ false) × (search.cuts ≡ false)

-- a card of the root after which the tree has more nodes than the search may enter; in a plain search the first such card
pub record IsSpentBy (n : NodeValue) (moves : ℕ) (search : Search) (card : ℕ) : Type 0 where
  pub spent : IsSpentAt n moves search.nodes card
  pub first : IsPlain search → IsFirstSpentAt n moves search.nodes card

-- a job whose search is spent at this card
abbrev pub IsSpentOn : TaskValue → ℕ → Type 0
IsSpentOn (Solve root moves search) card = IsSpentBy root.kept.node moves search card
IsSpentOn (Card root moves search) card = IsSpentBy root.kept.node moves search card
IsSpentOn (Match root moves search playing) card = IsSpentBy root.kept.node moves search card
IsSpentOn (Made number root search) card = IsSpentBy root.kept.node made_moves search card
IsSpentOn (Prove root moves nodes) card = IsFirstSpentAt root.kept.node moves nodes card
IsSpentOn _ card = ⊥

-- no root card's tree is too large in any game that has a root
abbrev pub AllGamesFit : List (Result Root Status) → ℕ → ℕ → Type 0
AllGamesFit roots moves nodes = All (λ found. IfOk found (λ root. AllFit root.kept.node moves nodes)) roots

-- the game of this number, counted from 1, has a root, after a card of which the tree has more nodes than the search may enter;
-- in a plain search it is the first such game, and the card its first
pub record IsGameSpentBy (roots : List (Result Root Status)) (moves : ℕ) (search : Search) (game card : ℕ) : Type 0 where
  pub place : ℕ
  pub root : Root
  pub number : game ≡ place + 1
  pub there : slice_get roots place ≡ Some (Ok root)
  pub spent : IsSpentAt root.kept.node moves search.nodes card
  pub first : IsPlain search → IsFirstSpentAt root.kept.node moves search.nodes card
      × AllGamesFit (take place roots) moves search.nodes

-- a job on all games whose search is spent in this game at this card
abbrev pub IsGameSpentOn : TaskValue → ℕ → ℕ → Type 0
IsGameSpentOn (Boards roots moves search) game card = IsGameSpentBy roots moves search game card
IsGameSpentOn _ game card = ⊥

-- a job whose log doesn't prove what it is asked, where this is the number that shows it
abbrev pub IsUnprovedOn : TaskValue → ℕ → Type 0
IsUnprovedOn (Audit root audit) number = IsLogVerdict root.kept.node audit.moves audit.vectors audit.lines (No number)
IsUnprovedOn _ number = ⊥

-- nothing stands against a job's text: no root card's tree is too large, where there is a search, and a log proves what it is
-- asked
abbrev pub HasText : TaskValue → Type 0
HasText (Solve root moves search) = AllFit root.kept.node moves search.nodes
HasText (Card root moves search) = AllFit root.kept.node moves search.nodes
HasText (Match root moves search playing) = AllFit root.kept.node moves search.nodes
HasText (Made number root search) = AllFit root.kept.node made_moves search.nodes
HasText (Prove root moves nodes) = AllFit root.kept.node moves nodes
HasText (Boards roots moves search) = AllGamesFit roots moves search.nodes
HasText (Audit root audit) = IsLogVerdict root.kept.node audit.moves audit.vectors audit.lines Yes
HasText _ = ⊤

-- what is known of the trees where a job has its text: a plain search, or one for a log, has met no tree that is too large
abbrev pub IsWithinIfPlain : TaskValue → Type 0
IsWithinIfPlain (Solve root moves search) = IsPlain search → AllFit root.kept.node moves search.nodes
IsWithinIfPlain (Card root moves search) = IsPlain search → AllFit root.kept.node moves search.nodes
IsWithinIfPlain (Match root moves search playing) = IsPlain search → AllFit root.kept.node moves search.nodes
IsWithinIfPlain (Made number root search) = IsPlain search → AllFit root.kept.node made_moves search.nodes
IsWithinIfPlain (Boards roots moves search) = IsPlain search → AllGamesFit roots moves search.nodes
IsWithinIfPlain (Prove root moves nodes) = AllFit root.kept.node moves nodes
IsWithinIfPlain _ = ⊤

-- the status is the answer's, where it isn't one that depends on reading, writing or memory, or on a search or a log
abbrev pub IsStatusFor : Result TaskValue Status → Status → Type 0
IsStatusFor answer Done = (task : TaskValue) × (answer ≡ Ok task) × IsWithinIfPlain task
IsStatusFor answer (Unread file) = ⊤
IsStatusFor answer (Spent card) = (task : TaskValue) × (answer ≡ Ok task) × IsSpentOn task card
IsStatusFor answer (GameSpent game card) = (task : TaskValue) × (answer ≡ Ok task) × IsGameSpentOn task game card
IsStatusFor answer (Unproved number) = (task : TaskValue) × (answer ≡ Ok task) × IsUnprovedOn task number
IsStatusFor answer Unwritten = (task : TaskValue) × (answer ≡ Ok task) × IsWithinIfPlain task
IsStatusFor answer Memory = ⊤
IsStatusFor answer status = answer ≡ Err status

-- how a run on the problem of a number ends, whatever files there are: with its text, or spent by the numbers alone, or
-- with a fault of the output, or out of memory
abbrev pub IsMadeStatus : TaskValue → Status → Type 0
IsMadeStatus task Done = IsWithinIfPlain task
IsMadeStatus task (Spent card) = IsSpentOn task card
IsMadeStatus task Unwritten = IsWithinIfPlain task
IsMadeStatus task Memory = ⊤
IsMadeStatus task _ = ⊥

-- the number leads to a root, and the run ends as its problem may end
abbrev pub IsMadeRun : ℕ → Search → Status → Type 0
IsMadeRun number search status = (root : Root) × (made_in number search ≡ Ok (Made number root search)) × IsMadeStatus (Made number root search) status

-- ---- what is written

-- the answer is a job, and its text came after what was told before; with the table of defenders before and after it
abbrev pub IsReported : Result TaskValue Status → List Sitter → List Sitter → Option (List ℕ) → Option (List ℕ) → Type 0
IsReported answer table later before now = (task : TaskValue) × (text : List ℕ) × (answer ≡ Ok task) × IsTextAt task table later text × (now ≡ append_known before text)

-- the same, but a proper prefix of the text came
abbrev pub IsReportedInPart : Result TaskValue Status → List Sitter → List Sitter → Option (List ℕ) → Option (List ℕ) → Type 0
IsReportedInPart answer table later before now = (task : TaskValue) × (text : List ℕ) × (answer ≡ Ok task) × IsTextAt task table later text × AppendsPart before text now

-- where it is told, what was written before stands in front of what is written now
abbrev pub IsKeptInFront : Option (List ℕ) → Option (List ℕ) → Type 0
IsKeptInFront before now = IfSome before (λ bytes. IsSomeAnd now (λ all. (more : List ℕ) × (all ≡ bytes ++ more)))

-- done, or out of memory
abbrev pub IsDoneOrMemory : Status → Type 0
IsDoneOrMemory status = (status ≡ Done) ⊎ (status ≡ Memory)

-- no fault was counted at any name of a file that the words name
abbrev pub HasNoFault : Option Files → AskValue → (List ℕ → ℕ) → (List ℕ → ℕ) → Type 0
HasNoFault told ask before now = (file : FileWord) (name : List ℕ) → IsNameOf told ask file name → ¬ (Rose (before name) (now name))
