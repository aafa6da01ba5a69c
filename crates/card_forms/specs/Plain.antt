-- The plain text of the cards of a root side by side.
use Rattle.std.specs.Prelude.{ℕ, Bool, true, false, List, ◌++◌, length, map, sum, flat_map, codes}
use Rattle.std.specs.Fmt.{decimal}
use Rattle.byte_text.specs.Lines.{line_of}
use Rattle.card_letters.specs.Letters.{letters_of}
use Rattle.bit_letters.specs.Bits.{bit_letter}
use Rattle.card_brackets.specs.declared.rows.CardRow.{CardRow}
use Rattle.card_brackets.specs.Rows.{is_final}
use Rattle.card_forms.specs.declared.planned.Planned.{Planned}
use Rattle.card_forms.specs.Planned.{planned_text}

-- whether a row is final
abbrev pub final_text : Bool → List ℕ
final_text true = codes " final yes"
final_text false = codes " final no"

-- the upper bound, the lower bound, and what sampling believes
unfoldable pub bounds_text : CardRow → List ℕ
bounds_text row = codes " most " ++ decimal row.most ++ codes " least " ++ decimal row.least ++ codes " sampled " ++ decimal row.sampled

-- whether the bounds are equal, and the best vector
unfoldable pub outcome_text : CardRow → List ℕ
outcome_text row = final_text (is_final row) ++ codes " vector " ++ map bit_letter row.vector

-- a card with all that
unfoldable pub row_line : CardRow → List ℕ
row_line row = line_of (codes "card " ++ letters_of row.card ++ bounds_text row ++ outcome_text row)

-- the number of moves, and how many layouts there are with their weight
unfoldable pub cards_head : List ℕ → Planned → List ℕ
cards_head weights planned =
    line_of (codes "alphamu cards 1") ++ line_of (codes "moves " ++ planned_text planned)
    ++ line_of (codes "layouts " ++ decimal (length weights) ++ codes " weight " ++ decimal (sum weights))

-- then a line for each card, and the card that is named
unfoldable pub cards_text : List ℕ → Planned → List CardRow → ℕ → List ℕ
cards_text weights planned rows named =
    cards_head weights planned ++ flat_map row_line rows ++ line_of (codes "named " ++ letters_of named)
