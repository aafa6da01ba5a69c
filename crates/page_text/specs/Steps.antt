-- A line in words as nested lists: a step for each line of the text, and within it the steps that are indented further.
use Rattle.std.specs.Prelude.{ℕ, ◌+◌, ◌-◌, ◌/◌, ◌==◌, ◌&&◌, not, true, Option, None, Some, false, List, [], ◌∷◌, ◌++◌, drop, replicate, length, get_or, slice_get, flat_map, nat_le, nat_lt, codes, if◌then◌else◌}
use Rattle.std.specs.List.{slice_split, position_or_len, range_with_len}
use Rattle.std.specs.Fmt.{decimal}
use Rattle.byte_text.specs.Lines.{is_line_end}
use Rattle.byte_text.specs.Blanks.{words}
use Rattle.card_letters.specs.Letters.{card_read}
use Rattle.win_vectors.specs.Fronts.{Vector}
use Rattle.win_vectors.specs.Vectors.{ones_of}
use Rattle.html_text.specs.declared.page.Piece.{Piece}
use Rattle.html_text.specs.Pages.{own, told}
use Rattle.page_text.specs.declared.markup.TheConstants.{INNER_LIST, LIST, LIST_END, NEXT_STEP, STEP, CLASSES}
use Rattle.page_text.specs.Shared.{numbered}
use Rattle.page_text.specs.Signs.{card_pieces}

-- the spaces at the front of a line of text
abbrev pub indentation : List ℕ → ℕ
indentation text = position_or_len (λ byte. not (byte == 32)) text

-- the level of its step: 1, and 1 more for each two spaces
abbrev pub level_of : List ℕ → ℕ
level_of text = indentation text / 2 + 1

-- the level after a line of text; an empty line has no step
abbrev pub level_after : ℕ → List ℕ → ℕ
level_after level [] = level
level_after level (byte ∷ text) = level_of (byte ∷ text)

-- some markup as often as this
abbrev pub repeated : ℕ → List ℕ → List Piece
repeated times markup = replicate times (record { is_own = true; bytes = markup })

-- from a step of one level to the next one's tag, which isn't closed: lists are opened within the step, or lists are closed and then the step
unfoldable pub turn : ℕ → ℕ → List Piece
turn level next =
    if nat_lt level next then own LIST.now ++ repeated (next - level - 1) INNER_LIST.now
    else repeated (level - next) LIST_END.now ++ own NEXT_STEP.now

-- a class for the layout at a place, if it can reach the step
abbrev pub layout_class : Vector → ℕ → List Piece
layout_class layouts place = if get_or layouts place false then numbered (codes "l") (codes " ") (place + 1) else []

-- a class for each layout that can reach the step
unfoldable pub step_classes : Vector → List Piece
step_classes layouts = own CLASSES.now ++ flat_map (layout_class layouts) (range_with_len 0 (length layouts)) ++ own (codes "'")

-- these, if not every layout can reach it
abbrev pub mark : Option Vector → List Piece
mark None = []
mark (Some layouts) = if ones_of layouts == length layouts then [] else step_classes layouts

-- the name of a step, by the number of its line and its place there, counted from 0; and its mark
unfoldable pub tag : ℕ → ℕ → Option Vector → List Piece
tag line place layouts = own STEP.now ++ told (decimal line) ++ own (codes "-") ++ told (decimal place) ++ own (codes "'") ++ mark layouts ++ own (codes ">")

-- the card that a word begins with, as SA or D2
abbrev pub card_in : List ℕ → Option ℕ
card_in (suit ∷ rank ∷ rest) = if nat_le suit 90 && nat_le rank 90 then card_read suit rank else None
card_in _ = None

-- a word, of which a card has the sign of its suit
abbrev pub word_as : Option ℕ → List ℕ → List Piece
word_as None word = told word
word_as (Some card) word = card_pieces card ++ told (drop 2 word)

abbrev pub word_pieces : List ℕ → List Piece
word_pieces word = word_as (card_in word) word ++ own (codes " ")

-- the words of a text, with the signs of suits
abbrev pub sentence : List ℕ → List Piece
sentence text = flat_map word_pieces (words text)

-- the step of a line of text at a place, with the layouts that can reach it, after a step of this level
unfoldable pub step : ℕ → ℕ → Option Vector → ℕ → List ℕ → List Piece
step line place layouts level [] = []
step line place layouts level (byte ∷ text) = turn level (level_of (byte ∷ text)) ++ tag line place layouts ++ sentence (byte ∷ text)

-- the steps of these lines of text from a place on, after one of this level; then all lists are closed
abbrev pub steps_after : ℕ → List Vector → ℕ → ℕ → List (List ℕ) → List Piece
steps_after line reached place level [] = repeated level LIST_END.now
steps_after line reached place level (text ∷ lines) =
    step line place (slice_get reached place) level text ++ steps_after line reached (place + 1) (level_after level text) lines

-- a text in words as nested lists, with the layouts that can reach each of its lines
abbrev pub steps : ℕ → List Vector → List ℕ → List Piece
steps line reached text = steps_after line reached 0 0 (slice_split is_line_end text)
