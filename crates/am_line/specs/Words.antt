-- The line that says which of the words of a study aren't understood.
use Rattle.std.specs.Prelude.{ℕ, ◌+◌, List, [], ◌∷◌, Option, Some, None, codes}
use Rattle.std.specs.List.{slice_get}
use Rattle.std.specs.Fmt.{decimal}
use Rattle.hand_conditions.specs.declared.fault.TermFault.{TermFault}
use Rattle.hand_conditions.specs.declared.fault.TermFault.TheVariants.{NotUnderstood, UpsideDown}
use Rattle.job_words.specs.declared.bad_word.BadWord.{BadWord}
use Rattle.job_words.specs.declared.bad_word.BadWord.TheVariants.{At, Missing, NotTaken, Value, Term, NotDefender}
use Rattle.job_words.specs.declared.bad_word.OptionName.{OptionName}
use Rattle.job_words.specs.declared.bad_word.OptionName.TheVariants as name
use Rattle.am_answer.specs.Lines.{joined_pieces}

-- an option as it is written
abbrev pub option_text : OptionName → List ℕ
option_text name.Job = codes "--job"
option_text name.Deal = codes "--deal"
option_text name.Layouts = codes "--layouts"
option_text name.Report = codes "--report"
option_text name.Moves = codes "--moves"
option_text name.Number = codes "--number"
option_text name.Layout = codes "--layout"
option_text name.Switch = codes "--switch"
option_text name.Log = codes "--log"
option_text name.Nodes = codes "--nodes"
option_text name.Workers = codes "--workers"
option_text name.Shards = codes "--shards"
option_text name.Room = codes "--room"
option_text name.NoTable = codes "--no-table"
option_text name.NoCuts = codes "--no-cuts"
option_text name.Form = codes "--form"
option_text name.From = codes "--from"
option_text name.Games = codes "--games"
option_text name.Draw = codes "--draw"
option_text name.Seed = codes "--seed"
option_text name.North = codes "--north"
option_text name.East = codes "--east"
option_text name.South = codes "--south"
option_text name.West = codes "--west"

-- what is wrong with a term
abbrev pub term_text : TermFault → List ℕ
term_text NotUnderstood = codes "\" isn't understood\n"
term_text UpsideDown = codes "\" is upside down\n"

-- the word at a place, counted from 0, if there is one; else the value of the last option is missing
abbrev pub place_pieces : ℕ → Option (List ℕ) → List (List ℕ)
place_pieces place (Some word) = codes "alphamu: word " ∷ decimal (place + 1) ∷ codes " isn't understood: " ∷ word ∷ codes "\n" ∷ []
place_pieces place None = codes "alphamu: the last option has no value\n" ∷ []

-- what is wrong with these words, piece by piece
abbrev pub word_pieces : List (List ℕ) → BadWord → List (List ℕ)
word_pieces words (At place) = place_pieces place (slice_get words place)
word_pieces words (Missing option) = codes "alphamu: " ∷ option_text option ∷ codes " is missing\n" ∷ []
word_pieces words (NotTaken option) = codes "alphamu: the job doesn't take " ∷ option_text option ∷ codes "\n" ∷ []
word_pieces words (Value option) = codes "alphamu: " ∷ option_text option ∷ codes " doesn't take this value\n" ∷ []
word_pieces words (Term option term why) = codes "alphamu: " ∷ option_text option ∷ codes ": \"" ∷ term ∷ term_text why ∷ []
word_pieces words (NotDefender option) = codes "alphamu: " ∷ option_text option ∷ codes ": no defender sits there\n" ∷ []

-- the line
unfoldable pub word_line : List (List ℕ) → BadWord → List ℕ
word_line words bad = joined_pieces (word_pieces words bad)
