-- A page as pieces, each its own markup or text that is told on it.
use Rattle.std.specs.Prelude.{◌≡◌, ℕ, ◌==◌, true, false, List, [], ◌∷◌, All, count_by, flat_map, if◌then◌else◌}
use Rattle.html_text.specs.declared.page.Piece.{Piece}
use Rattle.html_text.specs.Escapes.{escape}
use Rattle.html_text.specs.EscapeLaws.{IsXmlText}

-- markup of the page's own
abbrev pub own : List ℕ → List Piece
own markup = record { is_own = true; bytes = markup } ∷ []

-- text that is told
abbrev pub told : List ℕ → List Piece
told text = record { is_own = false; bytes = text } ∷ []

-- a piece as it is written: text that is told is escaped
abbrev pub piece_text : Piece → List ℕ
piece_text piece = if piece.is_own then piece.bytes else escape piece.bytes

-- a page as it is written
abbrev pub written : List Piece → List ℕ
written pieces = flat_map piece_text pieces

-- the markup of a page alone
abbrev pub markup_of : List Piece → List ℕ
markup_of pieces = flat_map (λ piece. if piece.is_own then piece.bytes else []) pieces

-- how often a text has a byte
abbrev pub count_of : ℕ → List ℕ → ℕ
count_of byte text = count_by (λ b. b == byte) text

-- a page has no more of the signs < > " and ' than its own markup: text that is told brings none
pub record SignsAreOwn (pieces : List Piece) : Type 0 where
  pub opening : count_of 60 (written pieces) ≡ count_of 60 (markup_of pieces)
  pub closing : count_of 62 (written pieces) ≡ count_of 62 (markup_of pieces)
  pub quotes : count_of 34 (written pieces) ≡ count_of 34 (markup_of pieces)
  pub apostrophes : count_of 39 (written pieces) ≡ count_of 39 (markup_of pieces)

-- a page is text that XML takes, whatever is told on it, if its own markup is
abbrev pub IsXmlWithItsMarkup : List Piece → Type 0
IsXmlWithItsMarkup pieces = All (λ piece. piece.is_own ≡ true → IsXmlText piece.bytes) pieces → IsXmlText (written pieces)
