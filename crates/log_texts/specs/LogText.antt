-- How a log is written: a line for each of its lines, between a first one and a last.
use Rattle.std.specs.Prelude.{◌≡◌, ℕ, zero, suc, Bool, List, [], ◌∷◌, ◌++◌, map, flat_map, codes}
use Rattle.std.specs.Fmt.{decimal}
use Rattle.byte_text.specs.Lines.{line_of}
use Rattle.bit_letters.specs.Bits.{bit_letter}
use Rattle.card_letters.specs.Letters.{letters_of}
use Rattle.trick_rules.specs.Nodes.{NodeValue}
use Rattle.log_check.specs.declared.lines.Rule.{Rule}
use Rattle.log_check.specs.declared.lines.Rule.TheVariants.{Leaf, Union, Join}
use Rattle.log_check.specs.declared.lines.LogLine.{LogLine}
use Rattle.log_check.specs.LogsFor.{IsLogFor}

abbrev pub rule_word : Rule → List ℕ
rule_word Leaf = codes "leaf"
rule_word Union = codes "union"
rule_word Join = codes "join"

-- pieces with a mark between each two
abbrev pub apart : {X : Type 0} → ℕ → (X → List ℕ) → List X → List ℕ
apart mark piece [] = []
apart mark piece (x ∷ xs) = piece x ++ flat_map (λ y. mark ∷ piece y) xs

-- the same, or a minus where there is none
abbrev pub listed : {X : Type 0} → ℕ → (X → List ℕ) → List X → List ℕ
listed mark piece [] = codes "-"
listed mark piece (x ∷ xs) = apart mark piece (x ∷ xs)

-- the mark, but not before the first piece
abbrev pub mark_before : ℕ → ℕ → List ℕ
mark_before mark zero = []
mark_before mark (suc place) = mark ∷ []

-- cards with full stops between them; numbers and vectors with commas
abbrev pub path_text : List ℕ → List ℕ
path_text path = listed 46 letters_of path

abbrev pub numbers_text : List ℕ → List ℕ
numbers_text numbers = listed 44 decimal numbers

abbrev pub vectors_text : List (List Bool) → List ℕ
vectors_text vectors = listed 44 (map bit_letter) vectors

-- the rule, the path, the moves, the numbers of the lines that it cites and the vectors
unfoldable pub log_line : LogLine → List ℕ
log_line line = line_of (rule_word line.rule ++ codes " " ++ path_text line.path ++ codes " " ++ decimal line.moves ++ codes " "
    ++ numbers_text line.from ++ codes " " ++ vectors_text line.vectors)

unfoldable pub log_text : List LogLine → List ℕ
log_text lines = line_of (codes "alphamu log 1") ++ flat_map log_line lines ++ line_of (codes "end")

-- the text of the log of a node with this many moves
abbrev pub IsLogTextFor : NodeValue → ℕ → List ℕ → Type 0
IsLogTextFor n moves text = (lines : List LogLine) × IsLogFor n moves lines × (text ≡ log_text lines)
