-- How a call ends: by the number that it returns, the bytes in the caller's buffer, and the length that it sets.
use Rattle.std.specs.Prelude.{◌≡◌, ◌≢◌, ◌<◌, ◌≤◌, ℕ, List, length, take, Result}
use Rattle.am_answer.specs.declared.status.Status.{Status}
use Rattle.am_answer.specs.Codes.{code_of}
use Rattle.am_answer.specs.Lines.{status_line}
use Rattle.am_answer.specs.Stages.{IsTextFor}
use Rattle.am_answer.specs.Tasks.{TaskValue}
use Rattle.library_text.specs.Requests.{RequestValue, task_for, IsCallRefusal}

-- the files lead to a job, and the first bytes of the buffer are its text
abbrev pub IsDelivered : Result TaskValue Status → List ℕ → ℕ → Type 0
IsDelivered answer out written = (written ≤ length out) × IsTextFor answer (take written out)

-- the text of the job is longer than the buffer, which is as it was: the length is the text's
abbrev pub NeedsRoom : Result TaskValue Status → List ℕ → List ℕ → ℕ → Type 0
NeedsRoom answer before now written = (now ≡ before)
    × (text : List ℕ) × IsTextFor answer text × (length before < length text) × (written ≡ length text)

-- the first bytes of the buffer are as much of the status's line as there is room for
abbrev pub HasLine : Status → List ℕ → ℕ → Type 0
HasLine status out written = (written ≤ length out) × (take written out ≡ take (length out) (status_line status))

-- there is no text, and the number and the line are those of a status that says why
abbrev pub IsRefused : Result TaskValue Status → ℕ → List ℕ → ℕ → Type 0
IsRefused answer number out written = (status : Status) × IsCallRefusal answer status × (number ≡ code_of status) × HasLine status out written

-- 0 says that the text is there, 8 that it has no room, and any other number is that of a refusal
pub record IsAnswered (request : RequestValue) (number : ℕ) (before now : List ℕ) (written : ℕ) : Type 0 where
  pub done : number ≡ 0 → IsDelivered (task_for request) now written
  pub no_room : number ≡ 8 → NeedsRoom (task_for request) before now written
  pub refused : number ≢ 0 → number ≢ 8 → IsRefused (task_for request) number now written
