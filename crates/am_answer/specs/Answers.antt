-- What the words and the files lead to, step by step.
use Rattle.std.specs.Prelude.{◌≡◌, ℕ, Bool, true, not, ◌&&◌, ◌==◌, List, [], ◌∷◌, length, map, Option, Result, Ok, Err, ok_or, if◌then◌else◌}
use Rattle.std.specs.List.{position, zip}
use Rattle.am_outside.specs.Shelf.{Files}
use Rattle.job_words.specs.declared.asks.Ask.TheVariants as asks
use Rattle.job_words.specs.declared.asks.LayoutsJob.TheVariants as jobs
use Rattle.job_words.specs.declared.asks.Search.{Search}
use Rattle.job_words.specs.Asks.{LayoutsJobValue}
use Rattle.pbn_text.specs.declared.fault.Syntax.{Syntax as TextSyntax}
use Rattle.pbn_text.specs.Games.{GameValue}
use Rattle.pbn_text.specs.Grammar.{games_read}
use Rattle.pbn_deal.specs.declared.fault.BoardRefusal.{BoardRefusal}
use Rattle.pbn_deal.specs.Boards.{BoardValue}
use Rattle.pbn_deal.specs.BoardRead.{board_read}
use Rattle.layout_list.specs.declared.fault.LayoutFault.{LayoutFault}
use Rattle.layout_list.specs.declared.line.Layout.{Layout}
use Rattle.layout_list.specs.Kept.{KeptValue}
use Rattle.layout_list.specs.Layouts.{layouts_read}
use Rattle.layout_maker.specs.declared.fault.MakeFault.{MakeFault}
use Rattle.layout_maker.specs.Divisions.{layouts_made}
use Rattle.layout_maker.specs.MadeProblem.{made_deal, made_layouts}
use Rattle.trick_rules.specs.Positions.{to_play}
use Rattle.trick_rules.specs.Play.{is_declarers, is_over}
use Rattle.trick_rules.specs.Nodes.{NodeValue}
use Rattle.am_answer.specs.declared.root.Root.{Root}
use Rattle.am_answer.specs.declared.status.PbnKind.TheVariants.{Syntax, NoGame}
use Rattle.am_answer.specs.declared.status.Status.{Status}
use Rattle.am_answer.specs.declared.status.Status.TheVariants.{BadPbn, NoTurn, NoLayout}
use Rattle.am_answer.specs.Files.{InputsValue, inputs_read}
use Rattle.am_answer.specs.Games.{GameFilesValue}
use Rattle.am_answer.specs.Judging.{plans_in}
use Rattle.am_answer.specs.Auditing.{audit_in}
use Rattle.am_answer.specs.Tasks as tasks
use Rattle.am_answer.specs.Tasks.{TaskValue}
use Rattle.am_answer.specs.Refusals.{board_status, layout_status, make_status}
use Rattle.byte_text.specs.Steps.{◌>>=◌}

-- ---- the board and the layouts

-- what a board's reader gives, or the status of its refusal
abbrev pub board_or : Result BoardValue BoardRefusal → Result BoardValue Status
board_or (Ok board) = Ok board
board_or (Err refusal) = Err (board_status refusal)

-- the board of the first game
abbrev pub first_board : Result (List GameValue) (ℕ × TextSyntax) → Result BoardValue Status
first_board (Err fault) = Err (BadPbn fault.0 (Syntax fault.1))
first_board (Ok []) = Err (BadPbn 1 NoGame)
first_board (Ok (game ∷ later)) = board_or (board_read game)

-- the board of a deal file
unfoldable pub board_in : List ℕ → Result BoardValue Status
board_in bytes = first_board (games_read bytes)

abbrev pub kept_or : Result KeptValue LayoutFault → Result KeptValue Status
kept_or (Ok kept) = Ok kept
kept_or (Err fault) = Err (layout_status fault)

-- the layouts of a file that the play of a board allows
unfoldable pub kept_in : List ℕ → BoardValue → Result KeptValue Status
kept_in bytes board = kept_or (layouts_read bytes board)

-- whether the play goes on and declarer's side is to play
abbrev pub has_choice : NodeValue → Bool
has_choice node = not (is_over node.position) && is_declarers (to_play node.position)

abbrev pub with_turn : Root → Result Root Status
with_turn root = if has_choice root.kept.node then Ok root else Err NoTurn

-- what holds of every root: declarer's side is to play, and each kept layout has its number and its weight
pub record IsRoot (root : Root) : Type 0 where
  pub turn : has_choice root.kept.node ≡ true
  pub as_many : length root.kept.numbers ≡ length root.kept.node.lefts
  pub weighed : length root.kept.weights ≡ length root.kept.node.lefts

-- on a board, the layouts, then whose turn it is
unfoldable pub root_on : BoardValue → List ℕ → Result Root Status
root_on board layouts = do
  kept ← kept_in layouts board
  with_turn (record { board = board; kept = kept })

-- the board, then the layouts, then whose turn it is
unfoldable pub root_in : List ℕ → List ℕ → Result Root Status
root_in deal layouts = do
  board ← board_in deal
  root_on board layouts

-- the same for one game of a deal file
unfoldable pub game_root : GameValue → List ℕ → Result Root Status
game_root game layouts = do
  board ← board_or (board_read game)
  root_on board layouts

-- what each game comes to with its own layout file: a root, or why it has none
unfoldable pub game_roots : GameFilesValue → List (Result Root Status)
game_roots files = map (λ (pair : GameValue × List ℕ). game_root pair.0 pair.1) (zip files.games files.layouts)

-- ---- what is to be done

-- the place of a layout among the kept ones, counted from 0
abbrev pub place_of : ℕ → Root → Option ℕ
place_of layout root = position (λ number. number == layout) root.kept.numbers

-- the match in the layout of a number, where it is kept
unfoldable pub match_at : Root → ℕ → Search → ℕ → Option ℕ → Result TaskValue Status
match_at root moves search layout switch = do
  place ← ok_or (place_of layout root) (NoLayout layout)
  Ok (tasks.Match root moves search (record { layout = layout; place = place; switch = switch }))

-- a job at a root
unfoldable pub task_at : Root → LayoutsJobValue → Result TaskValue Status
task_at root (jobs.Solve moves search) = Ok (tasks.Solve root moves search)
task_at root (jobs.Card moves search) = Ok (tasks.Card root moves search)
task_at root (jobs.Match moves search layout switch) = match_at root moves search layout switch
task_at root jobs.Fusion = Ok (tasks.Fusion root)
task_at root (jobs.Check report) = do
  plans ← plans_in root report
  Ok (tasks.Check plans)
task_at root (jobs.Prove moves nodes) = Ok (tasks.Prove root moves nodes)
task_at root (jobs.Audit report log) = do
  audit ← audit_in root report log
  Ok (tasks.Audit root audit)

abbrev pub listed_or : BoardValue → Result (List Layout) MakeFault → Result TaskValue Status
listed_or board (Ok layouts) = Ok (tasks.List board layouts)
listed_or board (Err fault) = Err (make_status fault)

-- all layouts of the board of a deal file
unfoldable pub listed_in : List ℕ → Result TaskValue Status
listed_in deal = do
  board ← board_in deal
  listed_or board (layouts_made board)

-- the problem made from a number: its texts are read as files are
unfoldable pub made_in : ℕ → Search → Result TaskValue Status
made_in number search = do
  root ← root_in (made_deal number) (made_layouts number)
  Ok (tasks.Made number root search)

-- the job that the files lead to
unfoldable pub task_in : InputsValue → Result TaskValue Status
task_in (asks.OnLayouts deal layouts job) = do
  root ← root_in deal layouts
  task_at root job
task_in (asks.List deal) = listed_in deal
task_in (asks.Made number search) = made_in number search
task_in (asks.Boards files moves search) = Ok (tasks.Boards (game_roots files) moves search)

-- ---- the whole

-- the job that the words and the files lead to, or the first refusal
unfoldable pub answer : List (List ℕ) → Files → Result TaskValue Status
answer words files = do
  inputs ← inputs_read words files
  task_in inputs
