-- What is written of the parts of a line is read back.
use Rattle.std.proofs.Common.{◌≡◌, ℕ, zero, suc, ◌+◌, ◌/◌, ◌%◌, ◌<◌, ◌≤◌, ◌^◌, Bool, true, false, ◌&&◌, ◌==◌, if◌then◌else◌, nat_lt, nat_le, Option, Some, None, List, [], ◌∷◌, ◌++◌, length, map, flat_map, get_or, codes, All, refl, sym, ap, ◌∙◌, arith, append-nil, inl, inr}
use Rattle.std.specs.List.{list_all, range_with_len}
use Rattle.std.specs.Str.{bytes_eq}
use Rattle.std.specs.Fmt.{decimal, digit_glyph, digits_onto, digits}
use Rattle.std.proofs.lemmas.Bool.{false≢true, and_parts, cases_Bool, le-leb, leb-true}
use Rattle.std.proofs.lemmas.Bool.Decides.{Decides-eqb}
use Rattle.std.proofs.lemmas.List.{length-map}
use Rattle.std.proofs.lemmas.List.Elements.{All-head, All-tail, All-weaker}
use Rattle.std.proofs.lemmas.List.Folds.{list_all-append, list_all_at}
use Rattle.std.proofs.lemmas.List.FromFn.{get_or-range_with_len, length-range_with_len}
use Rattle.std.proofs.lemmas.Slice.Eq.{bytes_eq-Decides}
use Rattle.byte_text.specs.Numerals.{is_numeral, number_within}
use Rattle.byte_text.proofs.ReadNumbers.{is_numeral-decimal, number_within-decimal}
use Rattle.card_letters.specs.Letters.{letters_of}
use Rattle.strategy_tree.specs.PlanRead.{card_named}
use Rattle.log_check.specs.declared.lines.Rule.{Rule}
use Rattle.log_check.specs.declared.lines.Rule.TheVariants.{Leaf, Union, Join}
use Rattle.log_texts.specs.LogText.{rule_word, apart, path_text, numbers_text, vectors_text}
use Rattle.log_texts.specs.Reading.{pieces_at, all_said, unless_none, rule_said, cards_said, numbers_said, bits_said, vectors_said}
use Rattle.log_texts.specs.ReadBack.{IsLineNumber, HasLayouts}
use Rattle.bit_letters.specs.Bits.{bit_letter, is_bit}
use Rattle.bit_letters.proofs.Written.{bits_back}
use Rattle.log_texts.proofs.Cut.{is_above, piece_first, piece_last}
use Rattle.log_texts.proofs.SaidPieces.{within}
use Rattle.strategy_tree.proofs.BelowLimit.{is_number, number_is, below_limit}

-- ---- high bytes

both_true : (a b : Bool) → a ≡ true → b ≡ true → (a && b) ≡ true
both_true a b first second = rw (first, second) refl

pub above_both : (low : ℕ) (a b : List ℕ) → is_above low a ≡ true → is_above low b ≡ true → is_above low (a ++ b) ≡ true
above_both low a b first second = list_all-append (λ byte. nat_le low byte) a b ∙ both_true (is_above low a) (is_above low b) first second

above_cons : (low byte : ℕ) (text : List ℕ) → low ≤ byte → is_above low text ≡ true → is_above low (byte ∷ text) ≡ true
above_cons low byte text high above = both_true (nat_le low byte) (is_above low text) (le-leb low byte high) above

pub above_less : (low high : ℕ) (text : List ℕ) → low ≤ high → is_above high text ≡ true → is_above low text ≡ true
above_less low high [] less above = refl
above_less low high (b ∷ text) less above =
    let parts = and_parts (nat_le high b) (is_above high text) above in
    let here = leb-true high b parts.0 in
    above_cons low b text (omega arith) (above_less low high text less parts.1)

-- a text that begins with a high byte is no minus
not_minus : (text more : List ℕ) → is_above 48 text ≡ true → 1 ≤ length text → bytes_eq (text ++ more) (codes "-") ≡ false
not_minus [] more above some = absurd (omega arith)
not_minus (b ∷ text) more above some =
    elim (cases_Bool (bytes_eq ((b ∷ text) ++ more) (codes "-"))) [
      | inl same ↦
          let here = leb-true 48 b (and_parts (nat_le 48 b) (is_above 48 text) above).0 in
          let are : (b ∷ text) ++ more ≡ codes "-" = (bytes_eq-Decides ((b ∷ text) ++ more) (codes "-")).0 same in
          let minus : b ≡ 45 = cc in
          absurd (omega arith)
      | inr other ↦ other
    ]

-- ---- pieces with marks between them

module _ {X : Type 0} (mark : ℕ) (piece : X → List ℕ) where
  -- each piece has a byte, and high ones alone
  abbrev pub IsHigh : X → Type 0
  IsHigh x = (is_above 48 (piece x) ≡ true) × (1 ≤ length (piece x))

  pub pieces_apart : (x : X) (xs : List X) → mark < 48 → All IsHigh (x ∷ xs) → pieces_at mark (apart mark piece (x ∷ xs)) ≡ map piece (x ∷ xs)
  pieces_apart x [] less high = ap (pieces_at mark) (append-nil (piece x)) ∙ piece_last mark 48 (piece x) less (All-head IsHigh x [] high).0
  pieces_apart x (y ∷ ys) less high =
      piece_first mark 48 (piece x) (apart mark piece (y ∷ ys)) less (All-head IsHigh x (y ∷ ys) high).0
      ∙ ap (λ (ps : List (List ℕ)). piece x ∷ ps) (pieces_apart y ys less (All-tail IsHigh x (y ∷ ys) high))

  pub all_back : (says : List ℕ → Option X) (xs : List X) → All (λ x. says (piece x) ≡ Some x) xs → all_said says (map piece xs) ≡ Some xs
  all_back says [] each = refl
  all_back says (x ∷ xs) each =
      let first = All-head (λ y. says (piece y) ≡ Some y) x xs each in
      let later = all_back says xs (All-tail (λ y. says (piece y) ≡ Some y) x xs each) in
      rw (first, later) refl

  pub apart_above : (x : X) (xs : List X) → 33 ≤ mark → All IsHigh (x ∷ xs) → is_above 33 (apart mark piece (x ∷ xs)) ≡ true
  apart_above x [] low high = above_both 33 (piece x) [] (above_less 33 48 (piece x) (omega arith) (All-head IsHigh x [] high).0) refl
  apart_above x (y ∷ ys) low high =
      above_both 33 (piece x) (mark ∷ apart mark piece (y ∷ ys)) (above_less 33 48 (piece x) (omega arith) (All-head IsHigh x (y ∷ ys) high).0)
      (above_cons 33 mark (apart mark piece (y ∷ ys)) low (apart_above y ys low (All-tail IsHigh x (y ∷ ys) high)))

  pub apart_no_minus : (x : X) (xs : List X) → All IsHigh (x ∷ xs) → bytes_eq (apart mark piece (x ∷ xs)) (codes "-") ≡ false
  apart_no_minus x xs high =
      let first = All-head IsHigh x xs high in
      not_minus (piece x) (flat_map (λ y. mark ∷ piece y) xs) first.0 first.1

-- ---- the parts

-- a word is read back, and has no byte up to the space
abbrev pub IsBack : {X : Type 0} → (List ℕ → Option X) → List ℕ → X → Type 0
IsBack says word x = (says word ≡ Some x) × (is_above 33 word ≡ true)

pub rule_back : (rule : Rule) → IsBack rule_said (rule_word rule) rule
rule_back Leaf = (refl, refl)
rule_back Union = (refl, refl)
rule_back Join = (refl, refl)

abbrev reads_card : ℕ → Bool
reads_card card = is_number (card_named (letters_of card)) card && is_above 48 (letters_of card)

reads_each_card : list_all reads_card (range_with_len 0 52) ≡ true
reads_each_card = refl

card_back : (card : ℕ) → card < 52 → (card_named (letters_of card) ≡ Some card) × (is_above 48 (letters_of card) ≡ true)
card_back card low = let parts = and_parts _ _ (below_limit reads_card 52 card reads_each_card low) in (number_is _ card parts.0, parts.1)

pub path_back : (path : List ℕ) → length path ≤ 52 → All (λ card. card < 52) path → IsBack (unless_none cards_said) (path_text path) path
unfolding cards_said
path_back [] few cards = (refl, refl)
path_back (c ∷ cs) few cards =
    let path = c ∷ cs in
    let high = All-weaker (λ card. card < 52) (IsHigh 46 letters_of) (λ card low. ((card_back card low).1, omega arith)) path cards in
    let each = All-weaker (λ card. card < 52) (λ card. card_named (letters_of card) ≡ Some card) (λ card low. (card_back card low).0) path cards in
    let said : cards_said (apart 46 letters_of path) ≡ Some path =
    ap (λ (ps : List (List ℕ)). if nat_le (length ps) 52 then all_said card_named ps else None) (pieces_apart 46 letters_of c cs (omega arith) high)
    ∙ within (length (map letters_of path)) 52 (all_said card_named (map letters_of path)) (omega (arith, length-map path letters_of))
    ∙ all_back 46 letters_of card_named path each in
    (rw (apart_no_minus 46 letters_of c cs high) said, apart_above 46 letters_of c cs (omega arith) high)

-- ---- numbers

if_above : (b : Bool) (x y : List ℕ) → is_above 48 x ≡ true → is_above 48 y ≡ true → is_above 48 (if b then x else y) ≡ true
if_above true x y first second = first
if_above false x y first second = second

glyph_above : (d : ℕ) → 48 ≤ digit_glyph false d
glyph_above d = go (nat_lt d 10)
  where
    go : (b : Bool) → 48 ≤ (if b then 48 + d else 87 + d)
    go true = omega arith
    go false = omega arith

digits_onto_above : (k n : ℕ) (text : List ℕ) → is_above 48 text ≡ true → is_above 48 (digits_onto k 10 false n text) ≡ true
digits_onto_above zero n text above = above
digits_onto_above (suc k) n text above =
    let more = above_cons 48 (digit_glyph false (n % 10)) text (glyph_above (n % 10)) above in
    if_above (n / 10 == 0) (digit_glyph false (n % 10) ∷ text) (digits_onto k 10 false (n / 10) (digit_glyph false (n % 10) ∷ text)) more
    (digits_onto_above k (n / 10) (digit_glyph false (n % 10) ∷ text) more)

decimal_above : (n : ℕ) → is_above 48 (decimal n) ≡ true
unfolding digits
decimal_above n = digits_onto_above 64 n [] refl

numeral_some : (text : List ℕ) → is_numeral text ≡ true → 1 ≤ length text
numeral_some [] numeral = absurd (false≢true numeral)
numeral_some (d ∷ ds) numeral = omega arith

pub number_back : (least most n : ℕ) → least ≤ n → n ≤ most → most < 2 ^ 64 → IsBack (number_within least most) (decimal n) n
number_back least most n low high small = (number_within-decimal least most n low high small, above_less 33 48 (decimal n) (omega arith) (decimal_above n))

pub numbers_back : (numbers : List ℕ) → All IsLineNumber numbers → IsBack (unless_none numbers_said) (numbers_text numbers) numbers
unfolding numbers_said
numbers_back [] each = (refl, refl)
numbers_back (n ∷ ns) each =
    let numbers = n ∷ ns in
    let high = All-weaker IsLineNumber (IsHigh 44 decimal) (λ m fits. (decimal_above m, numeral_some (decimal m) (is_numeral-decimal m (omega (arith, fits.1))))) numbers each in
    let back = All-weaker IsLineNumber (λ m. number_within 1 4294967295 (decimal m) ≡ Some m) (λ m fits. number_within-decimal 1 4294967295 m fits.0 (omega (arith, fits.1)) (omega arith)) numbers each in
    let said : numbers_said (apart 44 decimal numbers) ≡ Some numbers =
    ap (all_said (number_within 1 4294967295)) (pieces_apart 44 decimal n ns (omega arith) high) ∙ all_back 44 decimal (number_within 1 4294967295) numbers back in
    (rw (apart_no_minus 44 decimal n ns high) said, apart_above 44 decimal n ns (omega arith) high)

-- ---- vectors

bits_above : (vector : List Bool) → is_above 48 (map bit_letter vector) ≡ true
bits_above [] = refl
bits_above (true ∷ vector) = bits_above vector
bits_above (false ∷ vector) = bits_above vector

bits_all : (vector : List Bool) → list_all is_bit (map bit_letter vector) ≡ true
bits_all [] = refl
bits_all (true ∷ vector) = bits_all vector
bits_all (false ∷ vector) = bits_all vector

vector_back : (vector : List Bool) → HasLayouts vector → bits_said (map bit_letter vector) ≡ Some vector
unfolding bits_said
vector_back vector has =
    let size = length-map vector bit_letter in
    let one : nat_le 1 (length (map bit_letter vector)) ≡ true = le-leb _ _ (omega (arith, has.0)) in
    let most : nat_le (length (map bit_letter vector)) 256 ≡ true = le-leb _ _ (omega (arith, has.1)) in
    rw (bits_all vector, one, most, bits_back vector) refl

pub vectors_back : (vectors : List (List Bool)) → 1 ≤ length vectors → All HasLayouts vectors → IsBack vectors_said (vectors_text vectors) vectors
unfolding vectors_said
vectors_back [] some each = absurd (omega arith)
vectors_back (v ∷ vs) some each =
    let vectors = v ∷ vs in
    let high = All-weaker HasLayouts (IsHigh 44 (map bit_letter)) (λ w has. (bits_above w, omega (arith, length-map w bit_letter, has.0))) vectors each in
    let back = All-weaker HasLayouts (λ w. bits_said (map bit_letter w) ≡ Some w) vector_back vectors each in
    (ap (all_said bits_said) (pieces_apart 44 (map bit_letter) v vs (omega arith) high) ∙ all_back 44 (map bit_letter) bits_said vectors back, apart_above 44 (map bit_letter) v vs (omega arith) high)
