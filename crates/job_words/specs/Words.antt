-- What the words of the command line ask of `alphamu`.
use Rattle.std.specs.Prelude.{◌*◌, ◌-◌, ◌^◌, ◌||◌, ◌++◌, ℕ, Bool, not, List, [], ◌∷◌, length, Option, Some, None, Result, Ok, Err, codes, nat_le, is_some, ok_or, option_and_then, if◌then◌else◌}
use Rattle.std.specs.List.{list_any}
use Rattle.std.specs.Result.{result_ok}
use Rattle.std.specs.Str.{bytes_eq}
use Rattle.byte_text.specs.Steps.{◌>>=◌}
use Rattle.trick_rules.specs.Nodes.{most_moves}
use Rattle.job_words.specs.declared.asks.Search.{Search}
use Rattle.job_words.specs.declared.table.Job as jobs
use Rattle.job_words.specs.declared.asks.Ask.TheVariants as asks
use Rattle.job_words.specs.declared.asks.Ask.TheVariants.{OnLayouts, Boards, Made}
use Rattle.job_words.specs.declared.asks.LayoutsJob.TheVariants.{Solve, Card, Match, Check, Fusion, Prove, Audit}
use Rattle.job_words.specs.Asks.{AskValue, LayoutsJobValue, most_entries, most_logged}
use Rattle.job_words.specs.Options.{OptionValues, options_read}
use Rattle.job_words.specs.declared.bad_word.BadWord.{BadWord}
use Rattle.job_words.specs.declared.bad_word.BadWord.TheVariants.{Missing, Value}
use Rattle.job_words.specs.declared.bad_word.OptionName.TheVariants as name
use Rattle.job_words.specs.Values.{file_of, job_named, number_of, number_or, result_map}
use Rattle.job_words.specs.Table.{misused, uses_by}

-- what is named, unless it comes with a fault
abbrev pub unless_fault : {A : Type 0} → Option BadWord → A → Result A BadWord
unless_fault None named = Ok named
unless_fault (Some fault) named = Err fault

-- the job that the options name, if they are those that it takes
unfoldable pub job_in : OptionValues → Result jobs.Job BadWord
job_in o = do
  text ← ok_or o.job (Missing name.Job)
  job ← ok_or (job_named text) (Value name.Job)
  unless_fault (misused (uses_by job) o) job

-- the shards of the table and the room of each, for 262,144 entries in all at most
unfoldable pub table_in : OptionValues → Result (ℕ × ℕ) BadWord
table_in o = do
  shards ← number_or name.Shards 16 1 64 o.search.shards
  room ← number_or name.Room 16384 1 65536 o.search.room
  if nat_le (shards * room) most_entries then Ok (shards, room) else Err (Value name.Room)

-- how to search
unfoldable pub search_in : OptionValues → Result Search BadWord
search_in o = do
  nodes ← number_or name.Nodes 10000000 1 (2 ^ 64 - 1) o.nodes
  workers ← number_or name.Workers 1 1 64 o.search.workers
  size ← table_in o
  Ok (record {
    nodes = nodes;
    workers = workers;
    shards = size.0;
    room = size.1;
    table = not o.search.no_table;
    cuts = not o.search.no_cuts;
  })

-- how many cards of declarer's side a search goes through
unfoldable pub moves_in : OptionValues → Result ℕ BadWord
moves_in o = number_of name.Moves 1 most_moves o.moves

-- every best trade-off, by a search
unfoldable pub solve_in : OptionValues → Result LayoutsJobValue BadWord
solve_in o = do
  moves ← moves_in o
  search ← search_in o
  Ok (Solve moves search)

-- the card to play, by the same search
unfoldable pub card_in : OptionValues → Result LayoutsJobValue BadWord
card_in o = do
  moves ← moves_in o
  search ← search_in o
  Ok (Card moves search)

-- the number of the card before which another defender comes in, where one is to come
abbrev pub switch_or_none : Option (List ℕ) → Result (Option ℕ) BadWord
switch_or_none None = Ok None
switch_or_none (Some text) = result_map Some (number_of name.Switch 1 52 (Some text))

unfoldable pub switch_in : OptionValues → Result (Option ℕ) BadWord
switch_in o = switch_or_none o.switch

-- the first strategy of the front by the same search, played out in one layout
unfoldable pub match_in : OptionValues → Result LayoutsJobValue BadWord
match_in o = do
  moves ← moves_in o
  search ← search_in o
  layout ← number_of name.Layout 1 256 o.layout
  switch ← switch_in o
  Ok (Match moves search layout switch)

-- the check of a report
unfoldable pub check_in : OptionValues → Result LayoutsJobValue BadWord
check_in o = do
  report ← file_of name.Report o.report
  Ok (Check report)

-- the log that proves a front complete, if the tree of each card has at most this many nodes
unfoldable pub prove_in : OptionValues → Result LayoutsJobValue BadWord
prove_in o = do
  moves ← moves_in o
  nodes ← number_or name.Nodes 10000000 1 most_logged o.nodes
  Ok (Prove moves nodes)

-- the audit of a report by a log
unfoldable pub audit_in : OptionValues → Result LayoutsJobValue BadWord
audit_in o = do
  report ← file_of name.Report o.report
  log ← file_of name.Log o.log
  Ok (Audit report log)

-- a job on the two files
unfoldable pub on_layouts : OptionValues → LayoutsJobValue → Result AskValue BadWord
on_layouts o job = do
  deal ← file_of name.Deal o.deal
  layouts ← file_of name.Layouts o.layouts
  Ok (OnLayouts deal layouts job)

-- all layouts of a deal
unfoldable pub list_in : OptionValues → Result AskValue BadWord
list_in o = do
  deal ← file_of name.Deal o.deal
  Ok (asks.List deal)

-- the problem made from a number
unfoldable pub made_in : OptionValues → Result AskValue BadWord
made_in o = do
  number ← number_of name.Number 0 (2 ^ 64 - 1) o.number
  search ← search_in o
  Ok (Made number search)

-- every game of a deal, by a search
unfoldable pub boards_in : OptionValues → Result AskValue BadWord
boards_in o = do
  deal ← file_of name.Deal o.deal
  layouts ← file_of name.Layouts o.layouts
  moves ← moves_in o
  search ← search_in o
  Ok (Boards (record { deal = deal; layouts = layouts }) moves search)

-- what the options ask for, by the job
abbrev pub ask_by : jobs.Job → OptionValues → Result AskValue BadWord
ask_by jobs.TheVariants.Solve o = solve_in o >>= on_layouts o
ask_by jobs.TheVariants.Card o = card_in o >>= on_layouts o
ask_by jobs.TheVariants.Match o = match_in o >>= on_layouts o
ask_by jobs.TheVariants.Fusion o = on_layouts o Fusion
ask_by jobs.TheVariants.List o = list_in o
ask_by jobs.TheVariants.Check o = check_in o >>= on_layouts o
ask_by jobs.TheVariants.Made o = made_in o
ask_by jobs.TheVariants.Prove o = prove_in o >>= on_layouts o
ask_by jobs.TheVariants.Audit o = audit_in o >>= on_layouts o
ask_by jobs.TheVariants.Boards o = boards_in o

-- what the options ask for
unfoldable pub ask_in : OptionValues → Result AskValue BadWord
ask_in o = do
  job ← job_in o
  ask_by job o

-- some word is exactly two dashes
abbrev pub has_two_dashes : List (List ℕ) → Bool
has_two_dashes = list_any (λ word. bytes_eq word (codes "--"))

-- the options in the words, if these are nothing but options with their values
unfoldable pub options_found : List (List ℕ) → Option OptionValues
options_found words = if has_two_dashes words then None else options_read words

-- what the words ask for, if they ask for anything
unfoldable pub words_read : List (List ℕ) → Option AskValue
words_read words = option_and_then (λ o. result_ok (ask_in o)) (options_found words)

-- ---- the first word that isn't understood

-- the words are options with their values, or would be with one more value
abbrev pub are_begun : List (List ℕ) → Bool
are_begun words = is_some (options_found words) || is_some (options_found (words ++ codes "0" ∷ []))

-- the place of the first of the later words at which the words up to there are no such words; if there is none, of their end
abbrev pub bad_place_after : List (List ℕ) → List (List ℕ) → ℕ
bad_place_after words [] = length words
bad_place_after words (word ∷ later) =
    if are_begun (words ++ word ∷ []) then bad_place_after (words ++ word ∷ []) later else length words

-- the place of the first word that is neither an option nor a value, counted from 0; if there is none, that of their end
abbrev pub bad_place : List (List ℕ) → ℕ
bad_place words = bad_place_after [] words
