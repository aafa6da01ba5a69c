-- How a log is read: the version, its lines and the end. The first line of the file that doesn't stand is the answer.
use Rattle.std.specs.Prelude.{◌≡◌, ℕ, ◌+◌, Bool, ◌==◌, ◌&&◌, nat_le, List, [], ◌∷◌, map, length, Option, Some, None, option_and_then, Result, Ok, Err, if◌then◌else◌, bytes_eq, codes}
use Rattle.std.specs.Option.{option_map}
use Rattle.std.specs.List.{slice_split, list_all}
use Rattle.byte_text.specs.Lines.{line_of, text_after}
use Rattle.byte_text.specs.Numerals.{number_within}
use Rattle.byte_text.specs.Steps.{◌>>=◌}
use Rattle.bit_letters.specs.Bits.{is_bit, is_one}
use Rattle.win_vectors.specs.Vectors.{most_layouts}
use Rattle.trick_rules.specs.Nodes.{most_moves}
use Rattle.strategy_tree.specs.PlanRead.{card_named}
use Rattle.log_check.specs.declared.lines.Rule.{Rule}
use Rattle.log_check.specs.declared.lines.Rule.TheVariants.{Leaf, Union, Join}
use Rattle.log_check.specs.declared.lines.LogLine.{LogLine}
use Rattle.log_texts.specs.declared.fault.LogFault.{LogFault}
use Rattle.log_texts.specs.declared.fault.LogFault.TheVariants as faults

-- ---- pieces of a line

-- the pieces between the marks in a text: one more than there are marks
abbrev pub pieces_at : ℕ → List ℕ → List (List ℕ)
pieces_at mark text = slice_split (λ byte. byte == mark) text

-- what each piece says, where each says something
abbrev pub all_said : {X : Type 0} → (List ℕ → Option X) → List (List ℕ) → Option (List X)
all_said says [] = Some []
all_said says (piece ∷ pieces) = option_and_then (λ x. option_map (λ xs. x ∷ xs) (all_said says pieces)) (says piece)

-- nothing at a minus, and otherwise what the text says
abbrev pub unless_none : {X : Type 0} → (List ℕ → Option (List X)) → List ℕ → Option (List X)
unless_none says text = if bytes_eq text (codes "-") then Some [] else says text

-- ---- the words of a line

abbrev pub rule_said : List ℕ → Option Rule
rule_said word =
    if bytes_eq word (codes "leaf") then Some Leaf
    else if bytes_eq word (codes "union") then Some Union
    else if bytes_eq word (codes "join") then Some Join
    else None

-- at most 52 cards with full stops between them, by their letters in either case
unfoldable pub cards_said : List ℕ → Option (List ℕ)
cards_said word = if nat_le (length (pieces_at 46 word)) 52 then all_said card_named (pieces_at 46 word) else None

-- numbers from 1 that fit 32 bits, with commas between them
unfoldable pub numbers_said : List ℕ → Option (List ℕ)
numbers_said word = all_said (number_within 1 4294967295) (pieces_at 44 word)

-- a vector of 1 to 256 bits
unfoldable pub bits_said : List ℕ → Option (List Bool)
bits_said word =
    if list_all is_bit word && nat_le 1 (length word) && nat_le (length word) most_layouts then Some (map is_one word) else None

-- vectors with commas between them
unfoldable pub vectors_said : List ℕ → Option (List (List Bool))
vectors_said word = all_said bits_said (pieces_at 44 word)

-- ---- lines

-- the rule, the path, the moves, the numbers of the lines that it cites and the vectors
abbrev pub words_said : List (List ℕ) → Option LogLine
words_said (rule ∷ path ∷ moves ∷ from ∷ vectors ∷ []) =
    option_and_then (λ r. option_and_then (λ p. option_and_then (λ m. option_and_then (λ f. option_map (λ v. record { rule = r; path = p; moves = m; from = f; vectors = v })
    (vectors_said vectors)) (unless_none numbers_said from)) (number_within 0 most_moves moves)) (unless_none cards_said path)) (rule_said rule)
words_said _ = None

-- five words with single spaces between them
unfoldable pub line_said : List ℕ → Option LogLine
line_said text = words_said (pieces_at 32 text)

-- what has to stand on the file's line of this number
abbrev pub expected : {X : Type 0} → ℕ → Option X → Result X ℕ
expected number None = Err number
expected number (Some x) = Ok x

-- the line `end` may stand from the file's third line on
abbrev pub is_end : ℕ → List ℕ → Bool
is_end number text = nat_le 3 number && bytes_eq text (codes "end")

-- nothing stands behind `end`
abbrev pub nothing_more : ℕ → List (List ℕ) → Result (List LogLine) ℕ
nothing_more number ([] ∷ []) = Ok []
nothing_more number _ = Err number

-- the lines from the file's line of this number on, each with its end, and what stands behind the last line end
abbrev pub lines_read : ℕ → List (List ℕ) → Result (List LogLine) ℕ
lines_read number (text ∷ next ∷ later) =
    if is_end number text then nothing_more (number + 1) (next ∷ later)
    else (expected number (line_said text) >>= λ line. lines_read (number + 1) (next ∷ later) >>= λ lines. Ok (line ∷ lines))
lines_read number _ = Err number

-- ---- the whole

abbrev pub below_version : Option (List ℕ) → Result (List LogLine) ℕ
below_version None = Err 1
below_version (Some text) = lines_read 2 (pieces_at 10 text)

-- what a log says, or the number of the first line of the file that doesn't stand
unfoldable pub log_read : List ℕ → Result (List LogLine) ℕ
log_read bytes = below_version (text_after (line_of (codes "alphamu log 1")) bytes)

-- ---- what the reader gives

-- the line that was found, or memory ran out
abbrev pub IsLogFault : LogFault → Result (List LogLine) ℕ → Type 0
IsLogFault faults.Memory read = Unit {0}
IsLogFault (faults.Line number) read = read ≡ Err number
