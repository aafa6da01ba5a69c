-- Decimal numbers as they are read.
use Rattle.std.proofs.Common.{◌≡◌, ℕ, ◌+◌, ◌-◌, ◌*◌, ◌^◌, ◌<◌, ◌≤◌, Bool, true, false, not, ◌&&◌, ◌||◌, ◌==◌, Some, None, List, [], ◌∷◌, length, get_or, take, bytes_eq, nat_le, inl, inr, refl, sym, ap, ◌∙◌, arith}
use Rattle.std.specs.Char.{is_ascii_digit}
use Rattle.std.specs.Int.{IsInRange}
use Rattle.std.specs.List.{list_all}
use Rattle.std.specs.Fmt.{decimal}
use Rattle.std.specs.Str.{all_ascii_digits}
use Rattle.std.specs.Str.Parse.{digits_value}
use Rattle.std.proofs.lemmas.Bool.{cases_eq, ne_eqb, false≢true, and_parts}
use Rattle.std.proofs.lemmas.Bool.Decides.{Decides-eqb, leb_tells}
use Rattle.std.proofs.lemmas.Fmt.{decimal_digit, first_decimal, digits_decimal, digits_value-decimal, decimal-digits_value}
use Rattle.std.proofs.lemmas.Int.Digits.{digits_value_more}
use Rattle.std.proofs.lemmas.Slice.Eq.{bytes_eq-Decides}
use Rattle.std.proofs.lemmas.Str.{digit_value_digit}
use Rattle.std.proofs.lemmas.Str.Parse.{IsNumeralModel, numerals_by_value, tells_all_ascii_digits, digit_at, digits_value-take-le}
use Rattle.byte_text.specs.Numerals.{is_numeral, number_within}

-- ---- tests

or_first : (a b : Bool) → (a || b) ≡ true → b ≡ false → a ≡ true
or_first true b h other = refl
or_first false b h other = absurd (false≢true (sym other ∙ h))

or_true : (b : Bool) → (b || true) ≡ true
or_true true = refl
or_true false = refl

fails : (b : Bool) → (b ≡ true → ⊥) → b ≡ false
fails true never = absurd (never refl)
fails false never = refl

le_from : (a b : ℕ) → nat_le a b ≡ true → a ≤ b
le_from a b h = elim (leb_tells a b) [ inl below ↦ below.1 | inr above ↦ absurd (false≢true (sym above.0 ∙ h)) ]

pub le_true : (a b : ℕ) → a ≤ b → nat_le a b ≡ true
le_true a b h = elim (leb_tells a b) [ inl below ↦ below.0 | inr above ↦ absurd (omega (arith, above.1)) ]

-- ---- digits

own : IsNumeralModel (λ ds. all_ascii_digits ds ≡ true) (digits_value 10)
own = numerals_by_value (λ ds. all_ascii_digits ds ≡ true) tells_all_ascii_digits

pub each_digit : (text : List ℕ) → list_all is_ascii_digit text ≡ all_ascii_digits text
each_digit [] = refl
each_digit (c ∷ cs) = ap (λ b. is_ascii_digit c && b) (each_digit cs)

in_range : (text : List ℕ) (i : ℕ) → all_ascii_digits text ≡ true → i < length text → IsInRange 48 57 (get_or text i 0)
in_range text i all low = digit_at text i (own.to text all) low

pub digit_from : (text : List ℕ) (i : ℕ) → all_ascii_digits text ≡ true → i < length text → 48 ≤ get_or text i 0
digit_from text i all low = (in_range text i all low).0

pub digit_to : (text : List ℕ) (i : ℕ) → all_ascii_digits text ≡ true → i < length text → get_or text i 0 ≤ 57
digit_to text i all low = (in_range text i all low).1

-- one more digit of a number
pub value_more : (text : List ℕ) (i number : ℕ) → all_ascii_digits text ≡ true → i < length text → number ≡ digits_value 10 (take i text)
    → 10 * number + (get_or text i 0 - 48) ≡ digits_value 10 (take (i + 1) text)
value_more text i number all low so_far =
    let more = digits_value_more 10 text i low in
    let digit = digit_value_digit (get_or text i 0) (in_range text i all low) in
    omega (arith, more, digit, so_far)

-- a number is at least the number of the digits that it begins with
pub value_beyond : (text : List ℕ) (i most : ℕ) → most < digits_value 10 (take i text) → most < digits_value 10 text
value_beyond text i most more = omega (arith, digits_value-take-le 10 text i (omega arith))

-- ---- numbers within bounds

numeral_written : (text : List ℕ) → is_numeral text ≡ true → digits_value 10 text < 2 ^ 64 → bytes_eq text (decimal (digits_value 10 text)) ≡ true
numeral_written [] numeral small = absurd (false≢true numeral)
numeral_written (d ∷ ds) numeral small =
    let parts = and_parts (length (d ∷ ds) == 1 || not (d == 48)) (all_ascii_digits (d ∷ ds)) numeral in
    let some : 0 < length (d ∷ ds) = omega arith in
    let alone = λ (zero : d ≡ 48). (Decides-eqb (length (d ∷ ds)) 1).0 (or_first (length (d ∷ ds) == 1) (not (d == 48)) parts.0 (ap not ((Decides-eqb d 48).1 zero))) in
    (bytes_eq-Decides (d ∷ ds) (decimal (digits_value 10 (d ∷ ds)))).1 (sym (decimal-digits_value own (d ∷ ds) parts.1 some alone small))

numeral_from : (text : List ℕ) → all_ascii_digits text ≡ true → 48 < get_or text 0 0 → is_numeral text ≡ true
numeral_from [] all more = absurd (omega arith)
numeral_from (d ∷ ds) all more =
    let other : (d == 48) ≡ false = ne_eqb d 48 (λ e. omega arith) in
    rw (other, or_true (length (d ∷ ds) == 1)) all

pub is_numeral-decimal : (n : ℕ) → n < 2 ^ 64 → is_numeral (decimal n) ≡ true
is_numeral-decimal n small = elim (cases_eq n 0) [
  | inl none ↦ rw (none, decimal_digit 0 (omega arith)) refl
  | inr some ↦ numeral_from (decimal n) (digits_decimal own n small) (first_decimal n (omega arith) small)
]

module _ (least most : ℕ) (text : List ℕ) where
  refused : ((least ≤ digits_value 10 text) → (digits_value 10 text ≤ most) → text ≡ decimal (digits_value 10 text) → ⊥) → number_within least most text ≡ None
  unfolding number_within
  refused never =
      let n = digits_value 10 text in
      let fact = fails (nat_le least n && nat_le n most && bytes_eq text (decimal n))
      (λ all. let first = and_parts (nat_le least n && nat_le n most) (bytes_eq text (decimal n)) all in
      let bounds = and_parts (nat_le least n) (nat_le n most) first.0 in
      never (le_from least n bounds.0) (le_from n most bounds.1) ((bytes_eq-Decides text (decimal n)).0 first.1)) in
      rw fact refl

  pub number_within-no_numeral : is_numeral text ≡ false → most < 2 ^ 64 → number_within least most text ≡ None
  number_within-no_numeral other small =
      refused (λ low high same. false≢true (sym other ∙ ap is_numeral same ∙ is_numeral-decimal (digits_value 10 text) (omega arith)))

  pub number_within-beyond : most < digits_value 10 text → number_within least most text ≡ None
  number_within-beyond more = refused (λ low high same. omega arith)

  pub number_within-below : digits_value 10 text < least → number_within least most text ≡ None
  number_within-below less = refused (λ low high same. omega arith)

  pub number_within-numeral : is_numeral text ≡ true → least ≤ digits_value 10 text → digits_value 10 text ≤ most → most < 2 ^ 64 → number_within least most text ≡ Some (digits_value 10 text)
  unfolding number_within
  number_within-numeral numeral low high small =
      let written = numeral_written text numeral (omega arith) in
      rw (le_true least (digits_value 10 text) low, le_true (digits_value 10 text) most high, written) refl

-- what is written of a number within its bounds is read back
pub number_within-decimal : (least most n : ℕ) → least ≤ n → n ≤ most → most < 2 ^ 64 → number_within least most (decimal n) ≡ Some n
number_within-decimal least most n low high small =
    let same : digits_value 10 (decimal n) ≡ n = digits_value-decimal own n (omega arith) in
    number_within-numeral least most (decimal n) (is_numeral-decimal n (omega arith)) (omega (arith, same)) (omega (arith, same)) small ∙ ap (λ m. Some m) same
