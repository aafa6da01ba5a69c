-- How each stage of a run may end without its result: reading the words and the files, understanding them, and the work.
use Rattle.std.specs.Prelude.{◌≡◌, ⊤, ℕ, List, Result, Ok, Err}
use Rattle.am_answer.specs.declared.status.Status.{Status}
use Rattle.am_answer.specs.declared.status.Status.TheVariants.{Done, BadWords, Unread, BadPbn, Spent, Unwritten, Memory, TooLong, Unproved, GameSpent, TooManyGames}
use Rattle.am_answer.specs.Tasks.{TaskValue}
use Rattle.am_answer.specs.Reports.{IsText, IsTextAt}
use Rattle.am_match.specs.Defences.{Sitter}
use Rattle.am_answer.specs.Endings.{IsSpentOn, IsGameSpentOn, IsUnprovedOn, IsWithinIfPlain}

-- a status of reading the files, or of the number of games, which says how many files there are
abbrev pub IsOfFiles : Status → Type 0
IsOfFiles (Unread file) = ⊤
IsOfFiles (BadPbn line kind) = ⊤
IsOfFiles (TooManyGames games) = ⊤
IsOfFiles Memory = ⊤
IsOfFiles (TooLong file) = ⊤
IsOfFiles _ = ⊥

-- a status of reading the words and the files
abbrev pub IsOfReading : Status → Type 0
IsOfReading BadWords = ⊤
IsOfReading status = IsOfFiles status

-- the words, a file that is too long, or the games of a deal file; or else a file that couldn't be read, or no memory
abbrev pub IsReadRefusal : {A : Type 0} → Result A Status → Status → Type 0
IsReadRefusal expected BadWords = expected ≡ Err BadWords
IsReadRefusal expected (Unread file) = ⊤
IsReadRefusal expected Memory = ⊤
IsReadRefusal expected (TooLong file) = expected ≡ Err (TooLong file)
IsReadRefusal expected (BadPbn line kind) = expected ≡ Err (BadPbn line kind)
IsReadRefusal expected (TooManyGames games) = expected ≡ Err (TooManyGames games)
IsReadRefusal expected _ = ⊥

-- what the files say, or else no memory
abbrev pub IsFileRefusal : {A : Type 0} → Result A Status → Status → Type 0
IsFileRefusal expected Done = ⊥
IsFileRefusal expected BadWords = ⊥
IsFileRefusal expected (Unread file) = ⊥
IsFileRefusal expected (Spent card) = ⊥
IsFileRefusal expected (GameSpent game card) = ⊥
IsFileRefusal expected (Unproved number) = ⊥
IsFileRefusal expected Unwritten = ⊥
IsFileRefusal expected Memory = ⊤
IsFileRefusal expected (TooLong file) = ⊥
IsFileRefusal expected status = expected ≡ Err status

-- what the files say, or a search that is too large, or a log that doesn't prove, or else no memory
abbrev pub IsTaskRefusal : Result TaskValue Status → Status → Type 0
IsTaskRefusal answer (Spent card) = (task : TaskValue) × (answer ≡ Ok task) × IsSpentOn task card
IsTaskRefusal answer (GameSpent game card) = (task : TaskValue) × (answer ≡ Ok task) × IsGameSpentOn task game card
IsTaskRefusal answer (Unproved number) = (task : TaskValue) × (answer ≡ Ok task) × IsUnprovedOn task number
IsTaskRefusal answer status = IsFileRefusal answer status

-- the answer is a job, and this is its text; a plain search has met no tree that is too large
pub record IsTextFor (answer : Result TaskValue Status) (text : List ℕ) : Type 0 where
  pub task : TaskValue
  pub accepted : answer ≡ Ok task
  pub is_text : IsText task text
  pub fits : IsWithinIfPlain task

-- the same at a table of defenders, with the table after it
pub record IsTextForAt (answer : Result TaskValue Status) (table later : List Sitter) (text : List ℕ) : Type 0 where
  pub task : TaskValue
  pub accepted : answer ≡ Ok task
  pub is_text : IsTextAt task table later text
  pub fits : IsWithinIfPlain task

-- the status of a run that wrote nothing
abbrev pub IsRefusal : Result TaskValue Status → Status → Type 0
IsRefusal answer Done = ⊥
IsRefusal answer (Unread file) = ⊤
IsRefusal answer (Spent card) = (task : TaskValue) × (answer ≡ Ok task) × IsSpentOn task card
IsRefusal answer (GameSpent game card) = (task : TaskValue) × (answer ≡ Ok task) × IsGameSpentOn task game card
IsRefusal answer (Unproved number) = (task : TaskValue) × (answer ≡ Ok task) × IsUnprovedOn task number
IsRefusal answer Unwritten = ⊥
IsRefusal answer Memory = ⊤
IsRefusal answer status = answer ≡ Err status
