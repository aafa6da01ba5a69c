-- Text that is told brings to a page no sign of markup, and nothing that XML refuses.
use Rattle.std.proofs.Common.{◌≡◌, ◌∙◌, ◌+◌, ◌==◌, ◌||◌, ◌++◌, ℕ, Bool, true, false, cond, List, [], ◌∷◌, refl, sym, ap₂, arith}
use Rattle.std.specs.Prelude.{count_by}
use Rattle.std.proofs.lemmas.List.Sums.{sum_by-cons, sum_by-append}
use Rattle.html_text.specs.declared.page.Piece.{Piece}
use Rattle.std.specs.List.{list_any, list_all}
use Rattle.std.proofs.lemmas.Bool.{and_from}
use Rattle.std.proofs.lemmas.List.Elements.{All-head, All-tail}
use Rattle.std.proofs.lemmas.List.Folds.{list_all-append}
use Rattle.std.proofs.lemmas.Str.{encodes-append}
use Rattle.html_text.specs.Escapes.{is_xml_char, escape}
use Rattle.html_text.specs.EscapeLaws.{IsXmlText}
use Rattle.html_text.specs.Pages.{count_of, piece_text, written, markup_of, SignsAreOwn, IsXmlWithItsMarkup}
use Rattle.html_text.proofs.Escaped.{opens_none, closes_none, quotes_none, apostrophes_none, is_xml as escaped_is_xml}

none_and : (a b : Bool) (rest : ℕ) → (a || b) ≡ false → (b ≡ false → rest ≡ 0) → cond a 1 0 + rest ≡ 0
none_and false b rest h later = let nothing : rest ≡ 0 = later h in omega arith
none_and true b rest h later = cc

count_none : (p : ℕ → Bool) (xs : List ℕ) → list_any p xs ≡ false → count_by p xs ≡ 0
count_none p [] h = refl
count_none p (x ∷ xs) h = sum_by-cons (λ y. cond (p y) 1 0) x xs ∙ none_and (p x) (list_any p xs) (count_by p xs) h (count_none p xs)

module _ (sign : ℕ) (none : (text : List ℕ) → list_any (λ b. b == sign) (escape text) ≡ false) where
  same_piece : (is_own : Bool) (bytes : List ℕ) → count_of sign (cond is_own bytes (escape bytes)) ≡ count_of sign (cond is_own bytes [])
  same_piece true bytes = refl
  same_piece false bytes = count_none (λ b. b == sign) (escape bytes) (none bytes)

  same : (pieces : List Piece) → count_of sign (written pieces) ≡ count_of sign (markup_of pieces)
  same [] = refl
  same (piece ∷ pieces) =
      sum_by-append (λ b. cond (b == sign) 1 0) (piece_text piece) (written pieces)
      ∙ ap₂ (λ (a b : ℕ). a + b) (same_piece piece.is_own piece.bytes) (same pieces)
      ∙ sym (sum_by-append (λ b. cond (b == sign) 1 0) (cond piece.is_own piece.bytes []) (markup_of pieces))

pub signs_are_own : (pieces : List Piece) → SignsAreOwn pieces
signs_are_own pieces = record { opening = same 60 opens_none pieces; closing = same 62 closes_none pieces; quotes = same 34 quotes_none pieces; apostrophes = same 39 apostrophes_none pieces }

joins : (bytes more : List ℕ) → IsXmlText bytes → IsXmlText more → IsXmlText (bytes ++ more)
joins bytes more a b = (
  a.0 ++ b.0,
  list_all-append is_xml_char a.0 b.0 ∙ and_from (list_all is_xml_char a.0) (list_all is_xml_char b.0) a.1 b.1,
  encodes-append a.0 b.0 ∙ ap₂ (λ (x y : List ℕ). x ++ y) a.2 b.2,
)

xml_piece : (is_own : Bool) (bytes : List ℕ) → (is_own ≡ true → IsXmlText bytes) → IsXmlText (cond is_own bytes (escape bytes))
xml_piece true bytes own = own refl
xml_piece false bytes own = escaped_is_xml bytes

pub is_xml : (pieces : List Piece) → IsXmlWithItsMarkup pieces
is_xml [] all = ([], refl, refl)
is_xml (piece ∷ pieces) all =
    let own : Piece → Type 0 = λ piece. piece.is_own ≡ true → IsXmlText piece.bytes in
    joins (piece_text piece) (written pieces)
    (xml_piece piece.is_own piece.bytes (All-head own piece pieces all)) (is_xml pieces (All-tail own piece pieces all))
