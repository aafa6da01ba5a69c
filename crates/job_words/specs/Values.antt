-- The tests on values, numbers and names.
use Rattle.std.specs.Prelude.{◌==◌, ◌&&◌, ℕ, Bool, false, not, List, [], ◌∷◌, Option, Some, None, Result, Ok, Err, codes, nat_le, ok_or, option_and_then, if◌then◌else◌}
use Rattle.std.specs.Str.{all_ascii_digits, bytes_eq}
use Rattle.std.specs.Str.Parse.{digits_value}
use Rattle.byte_text.specs.Steps.{◌>>=◌}
use Rattle.job_words.specs.declared.bad_word.BadWord.{BadWord}
use Rattle.job_words.specs.declared.bad_word.BadWord.TheVariants.{Missing, Value}
use Rattle.job_words.specs.declared.bad_word.OptionName.{OptionName}
use Rattle.job_words.specs.declared.study.FormName.{FormName}
use Rattle.job_words.specs.declared.study.FormName.TheVariants as forms
use Rattle.job_words.specs.declared.table.Job.{Job}
use Rattle.job_words.specs.declared.table.Job.TheVariants as jobs
use Rattle.job_words.specs.declared.table.StudyJob.{StudyJob}
use Rattle.job_words.specs.declared.table.StudyJob.TheVariants as studies

-- what is read, as this makes it
abbrev pub result_map : {A B E : Type 0} → (A → B) → Result A E → Result B E
result_map f (Ok read) = Ok (f read)
result_map f (Err fault) = Err fault

-- a value isn't empty and doesn't begin with a dash
abbrev pub is_value : List ℕ → Bool
is_value [] = false
is_value (first ∷ rest) = not (first == 45)

-- the value of an option that names a file
unfoldable pub file_of : OptionName → Option (List ℕ) → Result (List ℕ) BadWord
file_of option given = do
  text ← ok_or given (Missing option)
  if is_value text then Ok text else Err (Value option)

-- the number that one or more decimal digits write
unfoldable pub number_read : List ℕ → Option ℕ
number_read [] = None
number_read (digit ∷ digits) =
    if all_ascii_digits (digit ∷ digits) then Some (digits_value 10 (digit ∷ digits)) else None

-- the number, if it lies in its range
abbrev pub in_range : ℕ → ℕ → ℕ → Option ℕ
in_range least most number =
    if nat_le least number && nat_le number most then Some number else None

-- the number that the text writes, if it lies in its range
unfoldable pub number_in : ℕ → ℕ → List ℕ → Option ℕ
number_in least most text = option_and_then (in_range least most) (number_read text)

-- the number that an option has for its value
unfoldable pub number_of : OptionName → ℕ → ℕ → Option (List ℕ) → Result ℕ BadWord
number_of option least most given = do
  text ← ok_or given (Missing option)
  ok_or (number_in least most text) (Value option)

-- the same of an option that may be left out
unfoldable pub number_or : OptionName → ℕ → ℕ → ℕ → Option (List ℕ) → Result ℕ BadWord
number_or option default least most None = Ok default
number_or option default least most (Some text) = number_of option least most (Some text)

-- the form of this name
unfoldable pub form_named : List ℕ → Option FormName
form_named name =
    if bytes_eq name (codes "text") then Some forms.Text
    else if bytes_eq name (codes "csv") then Some forms.Csv
    else if bytes_eq name (codes "json") then Some forms.Json
    else None

-- the job of `alphamu` of this name
unfoldable pub job_named : List ℕ → Option Job
job_named name =
    if bytes_eq name (codes "solve") then Some jobs.Solve
    else if bytes_eq name (codes "card") then Some jobs.Card
    else if bytes_eq name (codes "match") then Some jobs.Match
    else if bytes_eq name (codes "fusion") then Some jobs.Fusion
    else if bytes_eq name (codes "list") then Some jobs.List
    else if bytes_eq name (codes "check") then Some jobs.Check
    else if bytes_eq name (codes "made") then Some jobs.Made
    else if bytes_eq name (codes "prove") then Some jobs.Prove
    else if bytes_eq name (codes "audit") then Some jobs.Audit
    else if bytes_eq name (codes "boards") then Some jobs.Boards
    else None

-- the job of `alphamu_study` of this name
unfoldable pub study_job_named : List ℕ → Option StudyJob
study_job_named name =
    if bytes_eq name (codes "words") then Some studies.Words
    else if bytes_eq name (codes "lines") then Some studies.Lines
    else if bytes_eq name (codes "page") then Some studies.Page
    else if bytes_eq name (codes "cards") then Some studies.Cards
    else if bytes_eq name (codes "review") then Some studies.Review
    else if bytes_eq name (codes "draw") then Some studies.Draw
    else None
