-- What is asked of files in memory, and the job that they lead to, as words and files lead the program to it.
use Rattle.std.specs.Prelude.{◌≡◌, ℕ, not, ◌&&◌, nat_lt, List as Listed, Some, Result, Ok, Err, if◌then◌else◌}
use Rattle.std.specs.Borrow.{Bor}
use Rattle.trick_rules.specs.Nodes.{most_moves}
use Rattle.job_words.specs.declared.asks.Search.{Search}
use Rattle.job_words.specs.declared.asks.LayoutsJob.TheVariants as jobs
use Rattle.job_words.specs.Plain.{plain_search}
use Rattle.am_answer.specs.declared.root.Root.{Root}
use Rattle.am_answer.specs.declared.status.FileWord.TheVariants as files
use Rattle.am_answer.specs.declared.status.Status.{Status}
use Rattle.am_answer.specs.declared.status.Status.TheVariants.{BadWords, TooLong}
use Rattle.am_answer.specs.Answers.{root_in, task_at, listed_in}
use Rattle.am_answer.specs.Files.{within_limit}
use Rattle.am_answer.specs.Stages.{IsFileRefusal, IsTaskRefusal}
use Rattle.am_answer.specs.Tasks as tasks
use Rattle.am_answer.specs.Tasks.{TaskValue}
use Rattle.library_text.specs.declared.request.Request as requests
use Rattle.library_text.specs.declared.request.Request.TheVariants.{Report, Card, Fusion, List, Check}
use Rattle.byte_text.specs.Steps.{◌>>=◌}

-- what is asked, with the bytes of the files
abbrev pub RequestValue : Type 0
RequestValue = requests.Request (Listed ℕ)

-- a request by its value
abbrev pub request_of : requests.Request (Bor (Listed ℕ)) → RequestValue
request_of (Report deal layouts moves nodes) = Report deal.now layouts.now moves nodes
request_of (Card deal layouts moves nodes) = Card deal.now layouts.now moves nodes
request_of (Fusion deal layouts) = Fusion deal.now layouts.now
request_of (List deal) = List deal.now
request_of (Check deal layouts report) = Check deal.now layouts.now report.now

-- the caller alone searches, with the table and the cuts that the program takes by itself
abbrev pub alone : ℕ → Search
alone nodes = record plain_search { nodes = nodes }

-- the search of 1 to 26 moves and 1 node or more
abbrev pub search_by : ℕ → ℕ → Result Search Status
search_by moves nodes = if nat_lt 0 moves && not (nat_lt most_moves moves) && nat_lt 0 nodes then Ok (alone nodes) else Err BadWords

-- the root of a deal and its layouts, neither of which is too long
unfoldable pub root_within : Listed ℕ → Listed ℕ → Result Root Status
root_within deal layouts = do
  deal ← within_limit files.Deal (Some deal)
  layouts ← within_limit files.Layouts (Some layouts)
  root_in deal layouts

-- the job that the files lead to, or the first refusal
unfoldable pub task_for : RequestValue → Result TaskValue Status
task_for (Report deal layouts moves nodes) = do
  options ← search_by moves nodes
  root ← root_within deal layouts
  Ok (tasks.Solve root moves options)
task_for (Card deal layouts moves nodes) = do
  options ← search_by moves nodes
  root ← root_within deal layouts
  Ok (tasks.Card root moves options)
task_for (Fusion deal layouts) = do
  root ← root_within deal layouts
  Ok (tasks.Fusion root)
task_for (List deal) = do
  deal ← within_limit files.Deal (Some deal)
  listed_in deal
task_for (Check deal layouts report) = do
  deal ← within_limit files.Deal (Some deal)
  layouts ← within_limit files.Layouts (Some layouts)
  report ← within_limit files.Report (Some report)
  root ← root_in deal layouts
  task_at root (jobs.Check report)

-- what the files say, a file that is too long among them, or else no memory
abbrev pub IsFileFault : {A : Type 0} → Result A Status → Status → Type 0
IsFileFault expected (TooLong file) = expected ≡ Err (TooLong file)
IsFileFault expected status = IsFileRefusal expected status

-- why there is no text: the numbers, a file that is too long, or what the work of a job is refused for
abbrev pub IsCallRefusal : Result TaskValue Status → Status → Type 0
IsCallRefusal answer BadWords = answer ≡ Err BadWords
IsCallRefusal answer (TooLong file) = answer ≡ Err (TooLong file)
IsCallRefusal answer status = IsTaskRefusal answer status
