-- The words and what they ask for, without where they lie in memory.
use Rattle.std.specs.Prelude.{◌≡◌, ◌≤◌, ◌<◌, ◌*◌, ◌^◌, ℕ, ⊤, List, IfSome, true, map, String, string_bytes}
use Rattle.std.specs.Borrow.{Bor}
use Rattle.std.specs.declared.alloc.Global.{Global}
use Rattle.trick_rules.specs.Nodes.{most_moves}
use Rattle.job_words.specs.declared.asks.Ask as asks
use Rattle.job_words.specs.declared.asks.Ask.TheVariants.{OnLayouts, Boards, Made}
use Rattle.job_words.specs.declared.asks.GameNames.{GameNames}
use Rattle.job_words.specs.declared.asks.LayoutsJob as jobs
use Rattle.job_words.specs.declared.asks.LayoutsJob.TheVariants.{Solve, Card, Match, Fusion, Check, Prove, Audit}
use Rattle.job_words.specs.declared.asks.Search.{Search}
use Rattle.job_words.specs.Values.{is_value}

-- a job on a deal and its layouts, with a list of bytes for each file that it has beside them: its name, or its bytes
abbrev pub LayoutsJobValue : Type 0
LayoutsJobValue = jobs.LayoutsJob (List ℕ)

-- the names of the files of a deal's games
pub record GameNamesValue : Type 0 where
  pub deal : List ℕ
  pub layouts : List ℕ

-- what the words ask for, by the names of the files
abbrev pub AskValue : Type 0
AskValue = asks.Ask (List ℕ) GameNamesValue

-- the bytes of each word
abbrev pub texts_of : List (String Global) → List (List ℕ)
texts_of words = map (λ word. string_bytes word) words

-- a job by its value
abbrev pub job_of : jobs.LayoutsJob (Bor (List ℕ)) → LayoutsJobValue
job_of (Solve moves search) = Solve moves search
job_of (Card moves search) = Card moves search
job_of (Match moves search layout switch) = Match moves search layout switch
job_of Fusion = Fusion
job_of (Check report) = Check report.now
job_of (Prove moves nodes) = Prove moves nodes
job_of (Audit report log) = Audit report.now log.now

-- a request by its value
abbrev pub ask_of : asks.Ask (Bor (List ℕ)) GameNames → AskValue
ask_of (OnLayouts deal layouts job) = OnLayouts deal.now layouts.now (job_of job)
ask_of (asks.TheVariants.List deal) = asks.TheVariants.List deal.now
ask_of (Boards games moves search) = Boards (record { deal = games.deal.now; layouts = games.layouts.now }) moves search
ask_of (Made number search) = Made number search

-- how many cards of declarer's side a search can go through
abbrev pub IsMoves : ℕ → Type 0
IsMoves moves = (1 ≤ moves) × (moves ≤ most_moves)

-- the most entries that all shards of a table have room for
abbrev pub most_entries : ℕ
most_entries = 262144

-- the most nodes that the tree of a card may have if a log is written of it
abbrev pub most_logged : ℕ
most_logged = 268435456

-- the limits that a search keeps
pub record IsSearchWithinLimits (search : Search) : Type 0 where
  pub nodes : (1 ≤ search.nodes) × (search.nodes < 2 ^ 64)
  pub workers : (1 ≤ search.workers) × (search.workers ≤ 64)
  pub shards : (1 ≤ search.shards) × (search.shards ≤ 64)
  pub room : (1 ≤ search.room) × (search.room ≤ 65536)
  pub entries : search.shards * search.room ≤ most_entries

-- the number of a card that may be played
abbrev pub IsSwitch : ℕ → Type 0
IsSwitch at = (1 ≤ at) × (at ≤ 52)

-- the limits that a job keeps
abbrev pub IsJobWithinLimits : LayoutsJobValue → Type 0
IsJobWithinLimits (Solve moves search) = IsMoves moves × IsSearchWithinLimits search
IsJobWithinLimits (Card moves search) = IsMoves moves × IsSearchWithinLimits search
IsJobWithinLimits (Match moves search layout switch) =
    IsMoves moves × IsSearchWithinLimits search × (1 ≤ layout) × (layout ≤ 256) × IfSome switch IsSwitch
IsJobWithinLimits Fusion = ⊤
IsJobWithinLimits (Check report) = is_value report ≡ true
IsJobWithinLimits (Prove moves nodes) = IsMoves moves × (1 ≤ nodes) × (nodes ≤ most_logged)
IsJobWithinLimits (Audit report log) = (is_value report ≡ true) × (is_value log ≡ true)

-- the limits that a request keeps
abbrev pub IsWithinLimits : AskValue → Type 0
IsWithinLimits (OnLayouts deal layouts job) =
    (is_value deal ≡ true) × (is_value layouts ≡ true) × IsJobWithinLimits job
IsWithinLimits (asks.TheVariants.List deal) = is_value deal ≡ true
IsWithinLimits (Boards games moves search) =
    (is_value games.deal ≡ true) × (is_value games.layouts ≡ true) × IsMoves moves × IsSearchWithinLimits search
IsWithinLimits (Made number search) = (number < 2 ^ 64) × IsSearchWithinLimits search
