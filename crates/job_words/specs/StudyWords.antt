-- What the words of the command line ask of `alphamu_study`.
use Rattle.std.specs.Prelude.{ℕ, Bool, true, false, List, Option, Some, None, Result, Ok, is_some, ok_or, if◌then◌else◌}
use Rattle.trick_rules.specs.Nodes.{most_moves}
use Rattle.byte_text.specs.Numerals.{number_within}
use Rattle.byte_text.specs.Steps.{◌>>=◌}
use Rattle.job_words.specs.declared.bad_word.BadWord.{BadWord}
use Rattle.job_words.specs.declared.bad_word.BadWord.TheVariants.{At, Missing, Value}
use Rattle.job_words.specs.declared.bad_word.OptionName.TheVariants as name
use Rattle.job_words.specs.declared.study.FormName.{FormName}
use Rattle.job_words.specs.declared.study.FormName.TheVariants.{Text}
use Rattle.job_words.specs.declared.study.Study.{Study}
use Rattle.job_words.specs.declared.study.Study.TheVariants.{Words, Lines, Page, Cards, ExactCards, Review}
use Rattle.job_words.specs.declared.study.StudyAsk.TheVariants.{OfFiles, OfDrawn}
use Rattle.job_words.specs.declared.study.StudyAsk.TheVariants as ask
use Rattle.job_words.specs.declared.table.StudyJob as studies
use Rattle.job_words.specs.declared.asks.LayoutsJob.TheVariants.{Card}
use Rattle.job_words.specs.Asks.{AskValue, LayoutsJobValue}
use Rattle.job_words.specs.Draws.{draw_in}
use Rattle.job_words.specs.Options.{OptionValues}
use Rattle.job_words.specs.StudyAsks.{StudyAskValue}
use Rattle.job_words.specs.Table.{misused, uses_by_study}
use Rattle.job_words.specs.Values.{file_of, form_named, study_job_named}
use Rattle.job_words.specs.Words.{bad_place, boards_in, card_in, check_in, moves_in, on_layouts, options_found, search_in, solve_in, unless_fault}

-- the job that the options name, if they are those that it takes
unfoldable pub study_job_in : OptionValues → Result studies.StudyJob BadWord
study_job_in o = do
  text ← ok_or o.job (Missing name.Job)
  job ← ok_or (study_job_named text) (Value name.Job)
  unless_fault (misused (uses_by_study job) o) job

-- the report that is told: the one that `solve` gives if the options say how many moves to plan, or else that of `check`
abbrev pub report_by : Option (List ℕ) → OptionValues → Result LayoutsJobValue BadWord
report_by None o = check_in o
report_by (Some moves) o = solve_in o

unfoldable pub report_in : OptionValues → Result LayoutsJobValue BadWord
report_in o = report_by o.moves o

-- what a study tells of layouts that are drawn, by a search for this many moves
unfoldable pub drawn_in : Study → ℕ → OptionValues → Result StudyAskValue BadWord
drawn_in study moves o = do
  search ← search_in o
  deal ← file_of name.Deal o.deal
  draw ← draw_in o
  Ok (OfDrawn study deal draw moves search)

-- layouts that are drawn, as a layout file
unfoldable pub draw_ask_in : OptionValues → Result StudyAskValue BadWord
draw_ask_in o = do
  deal ← file_of name.Deal o.deal
  draw ← draw_in o
  Ok (ask.Draw deal draw)

-- what a study tells of a report on files
unfoldable pub told_of_files_in : Study → OptionValues → Result StudyAskValue BadWord
told_of_files_in study o = do
  job ← report_in o
  reads ← on_layouts o job
  Ok (OfFiles study reads)

-- what a study tells of a report. On layouts that are drawn it is the one that `solve` gives
unfoldable pub told_in : Study → OptionValues → Result StudyAskValue BadWord
told_in study o = if is_some o.draw then (moves_in o >>= (λ moves. drawn_in study moves o)) else told_of_files_in study o

-- the form that is asked for: text for people unless the options say otherwise
abbrev pub form_or_text : Option (List ℕ) → Result FormName BadWord
form_or_text None = Ok Text
form_or_text (Some text) = ok_or (form_named text) (Value name.Form)

unfoldable pub form_in : OptionValues → Result FormName BadWord
form_in o = form_or_text o.form

-- the trick to begin with: the first unless the options say otherwise
abbrev pub trick_or_first : Option (List ℕ) → Result ℕ BadWord
trick_or_first None = Ok 1
trick_or_first (Some text) = ok_or (number_within 1 13 text) (Value name.From)

unfoldable pub from_in : OptionValues → Result ℕ BadWord
from_in o = trick_or_first o.from

-- how many moves are planned: all if the options don't say
abbrev pub moves_or_most : Option (List ℕ) → OptionValues → Result ℕ BadWord
moves_or_most None o = Ok most_moves
moves_or_most (Some text) o = moves_in o

unfoldable pub moves_or_all : OptionValues → Result ℕ BadWord
moves_or_all o = moves_or_most o.moves o

-- the cards in a form: by a number of moves, or exactly if none is named
abbrev pub cards_by : FormName → Bool → Study
cards_by form true = Cards form
cards_by form false = ExactCards form

-- what a study tells of the search of `card` on files, for this many moves
unfoldable pub judged_of_files_in : Study → ℕ → OptionValues → Result StudyAskValue BadWord
judged_of_files_in study moves o = do
  search ← search_in o
  reads ← on_layouts o (Card moves search)
  Ok (OfFiles study reads)

-- the same on files or on layouts that are drawn
unfoldable pub judged_in : Study → ℕ → OptionValues → Result StudyAskValue BadWord
judged_in study moves o = if is_some o.draw then drawn_in study moves o else judged_of_files_in study moves o

-- every legal card
unfoldable pub cards_in : OptionValues → Result StudyAskValue BadWord
cards_in o = do
  form ← form_in o
  moves ← moves_or_all o
  judged_in (cards_by form (is_some o.moves)) moves o

-- the board to review, or all games of the deal file
unfoldable pub games_in : OptionValues → Result AskValue BadWord
games_in o = if o.games then boards_in o else (card_in o >>= on_layouts o)

-- every decision, judged by the same search
unfoldable pub review_in : OptionValues → Result StudyAskValue BadWord
review_in o = do
  form ← form_in o
  from ← from_in o
  reads ← games_in o
  Ok (OfFiles (Review form from) reads)

-- what the options ask for, by the job
abbrev pub study_by : studies.StudyJob → OptionValues → Result StudyAskValue BadWord
study_by studies.TheVariants.Words o = told_in Words o
study_by studies.TheVariants.Lines o = told_in Lines o
study_by studies.TheVariants.Page o = told_in Page o
study_by studies.TheVariants.Cards o = cards_in o
study_by studies.TheVariants.Review o = review_in o
study_by studies.TheVariants.Draw o = draw_ask_in o

-- what the options ask for
unfoldable pub study_in : OptionValues → Result StudyAskValue BadWord
study_in o = do
  job ← study_job_in o
  study_by job o

-- what the words ask for, or what in them isn't understood
unfoldable pub study_read : List (List ℕ) → Result StudyAskValue BadWord
study_read words = do
  o ← ok_or (options_found words) (At (bad_place words))
  study_in o
