-- What came of a layout that was played out.
use Rattle.std.specs.Prelude.{ℕ, Bool, List, [], ◌∷◌, ◌++◌, codes}
use Rattle.std.specs.Fmt.{decimal}
use Rattle.card_letters.specs.Letters.{letters_of}
use Rattle.byte_text.specs.Lines.{line_of}
use Rattle.am_report.specs.Lines.{spaced}
use Rattle.bit_letters.specs.Bits.{bit_letter}

-- the layout's number, the vector's bit at it, the cards in the order of play, and whether declarer's side made
unfoldable pub match_text : ℕ → Bool → List ℕ → Bool → List ℕ
match_text layout bit cards made =
    line_of (codes "alphamu match 1")
    ++ line_of (codes "layout " ++ decimal layout)
    ++ line_of (codes "bit " ++ bit_letter bit ∷ [])
    ++ line_of (codes "cards " ++ spaced letters_of cards)
    ++ line_of (codes "made " ++ bit_letter made ∷ [])
