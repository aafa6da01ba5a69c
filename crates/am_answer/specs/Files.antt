-- The files that the words name, read one after another.
use Rattle.std.specs.Prelude.{◌≡◌, ℕ, zero, suc, ◌+◌, Bool, true, false, ◌<◌, ◌≤◌, ◌^◌, nat_lt, List, [], ◌∷◌, length, All, Option, Some, None, IfSome, IsOkAnd, Result, Ok, Err, ok_or, ⊤, if◌then◌else◌}
use Rattle.std.specs.FinMap.{get}
use Rattle.am_outside.specs.Shelf.{Files}
use Rattle.job_words.specs.declared.asks.Ask.{Ask}
use Rattle.job_words.specs.declared.asks.Ask.TheVariants as asks
use Rattle.job_words.specs.declared.asks.LayoutsJob.TheVariants.{Solve, Card, Match, Fusion, Check, Prove, Audit}
use Rattle.job_words.specs.Asks.{AskValue, LayoutsJobValue, IsMoves, IsSearchWithinLimits, IsSwitch, most_logged}
use Rattle.job_words.specs.Words.{words_read}
use Rattle.am_answer.specs.declared.status.FileWord.{FileWord}
use Rattle.am_answer.specs.declared.status.FileWord.TheVariants.{Deal, Layouts, Report, Log}
use Rattle.am_answer.specs.declared.status.Status.{Status}
use Rattle.am_answer.specs.declared.status.Status.TheVariants.{BadWords, Unread, TooLong}
use Rattle.am_answer.specs.Games.{GameFilesValue, games_of, layouts_name, most_games}
use Rattle.byte_text.specs.Steps.{◌>>=◌}

-- the most bytes that a file may have
abbrev pub limit_of : FileWord → ℕ
limit_of Deal = 1048576
limit_of Layouts = 1048576
limit_of Report = 16777216
limit_of Log = 16777216

abbrev pub within_limit : FileWord → Option (List ℕ) → Result (List ℕ) Status
within_limit file None = Err (Unread file)
within_limit file (Some bytes) = if nat_lt (limit_of file) (length bytes) then Err (TooLong file) else Ok bytes

-- the bytes of a file of that name
unfoldable pub file_read : Files → FileWord → List ℕ → Result (List ℕ) Status
file_read files file name = within_limit file (get files name)

-- what the words ask for, with the bytes of the files that they name
abbrev pub InputsValue : Type 0
InputsValue = Ask (List ℕ) GameFilesValue

-- a job on layouts, with the bytes of the report that it judges, and of the log
unfoldable pub job_read : Files → LayoutsJobValue → Result LayoutsJobValue Status
job_read files (Check name) = do
  report ← file_read files Report name
  Ok (Check report)
job_read files (Audit report log) = do
  report ← file_read files Report report
  log ← file_read files Log log
  Ok (Audit report log)
job_read files job = Ok job

-- the layout files of this many games, in order, the first of which has this number
abbrev pub layouts_from : Files → List ℕ → ℕ → ℕ → Result (List (List ℕ)) Status
layouts_from files name number zero = Ok []
layouts_from files name number (suc more) = do
  layouts ← file_read files Layouts (layouts_name name number)
  later ← layouts_from files name (number + 1) more
  Ok (layouts ∷ later)

-- the games of a deal file of these bytes, and the layout file of each
unfoldable pub game_files : Files → List ℕ → List ℕ → Result GameFilesValue Status
game_files files name deal = do
  games ← games_of deal
  layouts ← layouts_from files name 1 (length games)
  Ok (record { games = games; layouts = layouts })

-- what the words ask for, with the bytes of the files that they name: the deal, then the layouts, then the report,
-- then the log; for all games, after the deal the layout file of each
unfoldable pub named_read : Files → AskValue → Result InputsValue Status
named_read files (asks.OnLayouts deal layouts job) = do
  deal ← file_read files Deal deal
  layouts ← file_read files Layouts layouts
  job ← job_read files job
  Ok (asks.OnLayouts deal layouts job)
named_read files (asks.List name) = do
  deal ← file_read files Deal name
  Ok (asks.List deal)
named_read files (asks.Made number search) = Ok (asks.Made number search)
named_read files (asks.Boards names moves search) = do
  deal ← file_read files Deal names.deal
  games ← game_files files names.layouts deal
  Ok (asks.Boards games moves search)

-- the words, then the files
unfoldable pub inputs_read : List (List ℕ) → Files → Result InputsValue Status
inputs_read words files = do
  ask ← ok_or (words_read words) BadWords
  named_read files ask

-- ---- the names of files

-- the name that a job on layouts gives a report or a log
abbrev pub file_named : LayoutsJobValue → FileWord → Option (List ℕ)
file_named (Check report) Report = Some report
file_named (Audit report log) Report = Some report
file_named (Audit report log) Log = Some log
file_named _ _ = None

-- the name that the words give a file by itself
abbrev pub name_of : AskValue → FileWord → Option (List ℕ)
name_of (asks.OnLayouts deal layouts job) Deal = Some deal
name_of (asks.OnLayouts deal layouts job) Layouts = Some layouts
name_of (asks.OnLayouts deal layouts job) file = file_named job file
name_of (asks.List deal) Deal = Some deal
name_of (asks.Boards names moves search) Deal = Some names.deal
name_of _ _ = None

-- a deal file of these bytes has a game of this number, counted from 1
abbrev pub IsGameNumber : List ℕ → ℕ → Type 0
IsGameNumber deal number = (1 ≤ number) × IsOkAnd (games_of deal) (λ games. number ≤ length games)

-- the number may be that of a game in the deal file of that name. If the shelf tells its files, the file has such a game
abbrev pub IsGameIn : Option Files → List ℕ → ℕ → Type 0
IsGameIn None deal number = (1 ≤ number) × (number ≤ most_games)
IsGameIn (Some files) deal number = IsOkAnd (file_read files Deal deal) (λ bytes. IsGameNumber bytes number)

-- the name of a game's layout file, if each game has its own
abbrev pub IsLayoutsName : Option Files → List ℕ → List ℕ → List ℕ → Type 0
IsLayoutsName told deal layouts name = (number : ℕ) × IsGameIn told deal number × (name ≡ layouts_name layouts number)

-- the words name a file so. If each game has its own layout file, it is the name of one of these
abbrev pub IsNameOf : Option Files → AskValue → FileWord → List ℕ → Type 0
IsNameOf told (asks.Boards names moves search) Layouts name = IsLayoutsName told names.deal names.layouts name
IsNameOf told ask file name = name_of ask file ≡ Some name

-- ---- which job is played at a table

-- a job on layouts is a match
abbrev pub is_match_job : LayoutsJobValue → Bool
is_match_job (Match moves search layout switch) = true
is_match_job _ = false

-- what is asked for is a match, by the names of the files or with their bytes
abbrev pub is_match : {G : Type 0} → Ask (List ℕ) G → Bool
is_match (asks.OnLayouts deal layouts job) = is_match_job job
is_match _ = false

-- the words ask for a match
abbrev pub asks_match : Option AskValue → Bool
asks_match (Some ask) = is_match ask
asks_match None = false

-- ---- what is read keeps limits

-- a search keeps to its limits and to the moves that it may have, and a report and a log to theirs
abbrev pub IsJobWithin : LayoutsJobValue → Type 0
IsJobWithin (Solve moves search) = IsMoves moves × IsSearchWithinLimits search
IsJobWithin (Card moves search) = IsMoves moves × IsSearchWithinLimits search
IsJobWithin (Match moves search layout switch) = IsMoves moves × IsSearchWithinLimits search × IfSome switch IsSwitch
IsJobWithin Fusion = ⊤
IsJobWithin (Check report) = length report ≤ limit_of Report
IsJobWithin (Prove moves nodes) = IsMoves moves × (1 ≤ nodes) × (nodes ≤ most_logged)
IsJobWithin (Audit report log) = (length report ≤ limit_of Report) × (length log ≤ limit_of Log)

-- each of these layout files keeps to its limit
abbrev pub AreWithinLimit : List (List ℕ) → Type 0
AreWithinLimit layouts = All (λ text. length text ≤ limit_of Layouts) layouts

-- there aren't too many games, each has a tag, and each layout file keeps to its limit
pub record AreGameFiles (files : GameFilesValue) : Type 0 where
  pub few : length files.games ≤ most_games
  pub tagged : All (λ game. 1 ≤ length game.tags) files.games
  pub within : AreWithinLimit files.layouts

-- each file and each search keeps to its limits
abbrev pub AreWithin : InputsValue → Type 0
AreWithin (asks.OnLayouts deal layouts job) = (length deal ≤ limit_of Deal) × (length layouts ≤ limit_of Layouts) × IsJobWithin job
AreWithin (asks.List deal) = length deal ≤ limit_of Deal
AreWithin (asks.Made number search) = (number < 2 ^ 64) × IsSearchWithinLimits search
AreWithin (asks.Boards files moves search) = AreGameFiles files × IsMoves moves × IsSearchWithinLimits search
