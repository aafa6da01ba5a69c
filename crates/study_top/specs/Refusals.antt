-- Why a study is refused, and what it says then.
use Rattle.std.specs.Prelude.{◌≢◌, ℕ, ⊤, List}
use Rattle.job_words.specs.declared.bad_word.BadWord.{BadWord}
use Rattle.job_words.specs.declared.bad_word.BadWord.TheVariants.{Value, NotDefender}
use Rattle.job_words.specs.declared.bad_word.OptionName.TheVariants.{Job}
use Rattle.am_answer.specs.declared.status.Status.{Status}
use Rattle.am_answer.specs.declared.status.Status.TheVariants.{Done, Unwritten, BadWords}
use Rattle.am_answer.specs.Lines.{status_line}
use Rattle.am_line.specs.Words.{word_line}
use Rattle.job_draw.specs.declared.refusal.DrawRefusal.{DrawRefusal}
use Rattle.job_draw.specs.declared.refusal.DrawRefusal.TheVariants as draws
use Rattle.study_top.specs.declared.refusal.Refusal.{Refusal}
use Rattle.study_top.specs.declared.refusal.Refusal.TheVariants.{Words, Ended}

-- a job that doesn't take what was read has the wrong name
abbrev pub refusal_of_status : Status → Refusal
refusal_of_status BadWords = Words (Value Job)
refusal_of_status status = Ended status

-- a condition on a hand of declarer's side is a fault of the words
abbrev pub refusal_of_draw : DrawRefusal → Refusal
refusal_of_draw (draws.NotDefender option) = Words (NotDefender option)
refusal_of_draw (draws.Refused status) = refusal_of_status status

-- it is no end of a run that was told
abbrev pub IsRefused : Refusal → Type 0
IsRefused (Words bad) = ⊤
IsRefused (Ended status) = (status ≢ Done) × (status ≢ Unwritten)

-- the status that the program ends with
abbrev pub status_of : Refusal → Status
status_of (Words bad) = BadWords
status_of (Ended status) = status

-- the line that it writes to standard error
abbrev pub refusal_line : List (List ℕ) → Refusal → List ℕ
refusal_line words (Words bad) = word_line words bad
refusal_line words (Ended status) = status_line status
