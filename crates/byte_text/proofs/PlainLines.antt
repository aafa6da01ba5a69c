-- Texts in which no line ends, and lines of them.
use Rattle.std.proofs.Common.{◌≡◌, ℕ, zero, suc, ◌+◌, ◌/◌, ◌%◌, ◌<◌, ◌≤◌, Bool, true, false, not, ◌&&◌, ◌==◌, if◌then◌else◌, nat_lt, Option, Some, List, [], ◌∷◌, ◌++◌, length, position, All, sym, subst, refl, ap, ◌∙◌, arith, append_assoc, length-append}
use Rattle.std.specs.List.{list_all, position_or_len}
use Rattle.std.specs.Fmt.{decimal, digit_glyph, digits_onto, digits}
use Rattle.std.proofs.lemmas.Bool.{ne_eqb, and_parts, not-true}
use Rattle.std.proofs.lemmas.Bool.Decides.{Decides-ltb}
use Rattle.std.proofs.lemmas.List.{drop_at, take_at}
use Rattle.std.proofs.lemmas.List.Folds.{list_all-append}
use Rattle.std.proofs.lemmas.List.Elements.{All-nil, All-cons}
use Rattle.byte_text.specs.Lines.{is_line_end, line_of, line_at, said_at}

-- no byte is a line end
abbrev pub is_plain : List ℕ → Bool
is_plain text = list_all (λ byte. not (is_line_end byte)) text

both_true : (a b : Bool) → a ≡ true → b ≡ true → (a && b) ≡ true
both_true a b first second = rw (first, second) refl

pub plain_byte : (byte : ℕ) → not (is_line_end byte) ≡ true → is_line_end byte ≡ false
plain_byte byte h = not-true (is_line_end byte) h

pub plain_all : (text : List ℕ) → is_plain text ≡ true → All (λ byte. is_line_end byte ≡ false) text
plain_all [] plain = All-nil (λ byte. is_line_end byte ≡ false)
plain_all (byte ∷ text) plain =
    let parts = and_parts (not (is_line_end byte)) (is_plain text) plain in
    All-cons (λ b. is_line_end b ≡ false) byte text (plain_byte byte parts.0) (plain_all text parts.1)

pub plain_both : (a b : List ℕ) → is_plain a ≡ true → is_plain b ≡ true → is_plain (a ++ b) ≡ true
plain_both a b first second = list_all-append (λ byte. not (is_line_end byte)) a b ∙ both_true (is_plain a) (is_plain b) first second

pub plain_cons : (byte : ℕ) (text : List ℕ) → not (is_line_end byte) ≡ true → is_plain text ≡ true → is_plain (byte ∷ text) ≡ true
plain_cons byte text first second = both_true (not (is_line_end byte)) (is_plain text) first second

above_plain : (byte : ℕ) → 11 ≤ byte → not (is_line_end byte) ≡ true
above_plain byte high = ap not (ne_eqb byte 10 (λ e. omega arith))

-- ---- numbers

if_plain : (b : Bool) (x y : List ℕ) → is_plain x ≡ true → is_plain y ≡ true → is_plain (if b then x else y) ≡ true
if_plain true x y first second = first
if_plain false x y first second = second

glyph_plain : (d : ℕ) → not (is_line_end (digit_glyph false d)) ≡ true
glyph_plain d = go (nat_lt d 10)
  where
    go : (b : Bool) → not (is_line_end (if b then 48 + d else 87 + d)) ≡ true
    go true = above_plain (48 + d) (omega arith)
    go false = above_plain (87 + d) (omega arith)

digits_onto_plain : (k n : ℕ) (text : List ℕ) → is_plain text ≡ true → is_plain (digits_onto k 10 false n text) ≡ true
digits_onto_plain zero n text plain = plain
digits_onto_plain (suc k) n text plain =
    let more = plain_cons (digit_glyph false (n % 10)) text (glyph_plain (n % 10)) plain in
    if_plain (n / 10 == 0) (digit_glyph false (n % 10) ∷ text) (digits_onto k 10 false (n / 10) (digit_glyph false (n % 10) ∷ text)) more
    (digits_onto_plain k (n / 10) (digit_glyph false (n % 10) ∷ text) more)

pub decimal_plain : (n : ℕ) → is_plain (decimal n) ≡ true
unfolding digits
decimal_plain n = digits_onto_plain 64 n [] refl

-- ---- lines

position_or_len-line : (text rest : List ℕ) → is_plain text ≡ true → position_or_len is_line_end (text ++ 10 ∷ rest) ≡ length text
position_or_len-line [] rest line = refl
position_or_len-line (b ∷ text) rest line = let parts = and_parts (not (is_line_end b)) (is_plain text) line in rw parts.0 (omega (arith, position_or_len-line text rest parts.1))

position_is : (p : ℕ → Bool) (xs : List ℕ) (i : ℕ) → position_or_len p xs ≡ i → i < length xs → position p xs ≡ Some i
position_is p xs i is low = rw (is, (Decides-ltb i (length xs)).1 low) refl

position-line : (text rest : List ℕ) → is_plain text ≡ true → position is_line_end (text ++ 10 ∷ rest) ≡ Some (length text)
position-line text rest line =
    position_is is_line_end (text ++ 10 ∷ rest) (length text) (position_or_len-line text rest line) (omega (arith, length-append text (10 ∷ rest)))

line_at-here : (before text rest : List ℕ) → is_plain text ≡ true → line_at (before ++ (text ++ 10 ∷ rest)) (length before) ≡ Some text
unfolding line_at
line_at-here before text rest line = rw (drop_at before (text ++ 10 ∷ rest) (length before) refl, position-line text rest line, take_at text (10 ∷ rest) (length text) refl) refl

-- what the line behind these bytes says, and where the next one begins
pub said_at-here : {A : Type 0} (says : List ℕ → Option A) (before text rest : List ℕ) (x : A) → is_plain text ≡ true → says text ≡ Some x
    → said_at says (before ++ (line_of text ++ rest)) (length before) ≡ Some (x, length (before ++ line_of text))
said_at-here says before text rest x line said =
    let here : line_at (before ++ (line_of text ++ rest)) (length before) ≡ Some text = subst (λ bytes. line_at (before ++ bytes) (length before) ≡ Some text) (sym (append_assoc text (10 ∷ []) rest)) (line_at-here before text rest line) in
    let next : length before + length text + 1 ≡ length (before ++ line_of text) = omega (arith, length-append before (line_of text), length-append text (10 ∷ [])) in
    rw (here, said, next) refl
