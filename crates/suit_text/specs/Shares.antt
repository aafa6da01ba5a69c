-- What share of all layouts a weight is, and the line that tells it for a number of tricks.
use Rattle.std.specs.Prelude.{ℕ, ◌+◌, ◌*◌, ◌/◌, ◌%◌, Bool, true, false, ◌==◌, List, ◌++◌, codes}
use Rattle.std.specs.Fmt.{decimal}
use Rattle.byte_text.specs.Lines.{line_of}
use Rattle.suit_text.specs.declared.line.SuitLine.{SuitLine}

-- how many hundredths of a percent a part is of a whole, to the nearest; a half is rounded up
abbrev pub hundredths : ℕ → ℕ → ℕ
hundredths part whole = (20000 * part + whole) / (2 * whole)

-- a number of hundredths as a percentage with two places
unfoldable pub percent_text : ℕ → List ℕ
percent_text share = decimal (share / 100) ++ codes "." ++ decimal (share % 100 / 10) ++ decimal (share % 10) ++ codes " %"

-- a weight as a percentage and as a fraction
unfoldable pub share_text : ℕ → ℕ → List ℕ
share_text part whole = percent_text (hundredths part whole) ++ codes " " ++ decimal part ++ codes "/" ++ decimal whole

abbrev pub yes_or_no : Bool → List ℕ
yes_or_no true = codes "yes"
yes_or_no false = codes "no"

-- the line for a number of tricks: no line of play makes them in more than `most`, and one makes them in `least`; a simulation
-- believes in `sampled`
unfoldable pub suit_line : SuitLine → List ℕ
suit_line line =
    line_of (codes "tricks " ++ decimal line.tricks ++ codes " most " ++ share_text line.most line.total
    ++ codes " least " ++ share_text line.least line.total ++ codes " sampled " ++ share_text line.sampled line.total
    ++ codes " final " ++ yes_or_no (line.most == line.least))
