-- One word of a vector: its bits, and the loops over its places.
use Rattle.std.proofs.Common.{◌≡◌, ◌≢◌, ℕ, suc, zero, ◌+◌, ◌-◌, ◌*◌, ◌/◌, ◌%◌, ◌^◌, ◌<◌, ◌≤◌, Bool, true, false, not, ◌&&◌, [], ◌∷◌, ◌++◌, length, refl, sym, ap, ◌∙◌, arith, if◌then◌else◌, bit_and, bit_or, bit_xor, pow-suc, ◌==◌, w64, lit<, append-nil, add-one}
use Rattle.std.proofs.lemmas.Bool.Decides.{nat_tests}
use Rattle.std.proofs.lemmas.Bool.{true≢false, false≢true}
use Rattle.std.proofs.lemmas.Nat.{and_le_l, or_lt, xor_lt, pow_below, pow_pos, shr-shr, field_of, one_shl}
use Rattle.std.proofs.Math.Pow.{pow_mono, pow-lt, mod-mod-pow}
use Rattle.std.proofs.Math.Bool.{or-false}
use Rattle.std.proofs.Math.Nat.{lt_of_lt_of_le, div-div-eq-div-mul, pos_of_ne-zero}
use Rattle.std.proofs.lemmas.Nat.Bits.{bit_at_lowest, bit_at-lt, bit_at_not, bit_at-zero, shr_and_one, bit_at-pow_same, bit_at-pow_other, bit_at_above, bit_at_xor, bit_at-trailing_zeros, bit_at_ones, bit_at_ones_above, bit_at_cat_low, bit_at_cat_high, bit_at_set_same, bit_at_set_other, bit_at_clear_same, bit_at_clear_other}
use Rattle.std.specs.Int.{bit_at, trailing_zeros}
use Rattle.std.specs.Int.Count.{ones, ones_step}
use Rattle.bit_lists.specs.Bits.{has_bit, bools}
use Rattle.bit_lists.proofs.Bools.{has_bit-and, has_bit-or, has_bit-zero, bools-zero, bools-suc, bools-more, bools-same, length-bools, get_or-bools}
use Rattle.bit_lists.proofs.Words.{same_word}
use Rattle.win_vectors.specs.Vectors.{ones_of, restrict_of, spread_of}
use Rattle.win_vectors.specs.Words.{IsLowestDifference, IsOnesBelow, IsRestrictedWord, IsSpreadWord}
use Rattle.win_vectors.proofs.VectorLemmas.{ones_of-append, ones_of-le, restrict_of-push, spread_of-push_one, spread_of-push_zero, DifferAt}

-- ---- how many ones

ones-lowest : (n : ℕ) → n % 2 ≡ (if has_bit n 0 then 1 else 0)
ones-lowest n = rw (bit_at_lowest n) (grind (arith, nat_tests))

pub ones_of-bools : (w n : ℕ) → n < 2 ^ w → ones_of (bools w n) ≡ ones n
ones_of-bools zero n h =
    let none : n ≡ 0 = omega arith in
    rw (none, bools-zero 0) (unfold ones in refl)
ones_of-bools (suc w) n h =
    let halved : n / 2 < 2 ^ w = omega (arith, pow-suc) in
    rw (bools-suc w n, ones_of-bools w (n / 2) halved, ones_step n, ones-lowest n) refl

pub ones-zero : ones 0 ≡ 0
ones-zero = unfold ones in refl

-- places with no one add none
ones_of-more_zeros : (n more bits : ℕ) → ((i : ℕ) → i < more → has_bit bits (n + i) ≡ false) → ones_of (bools (n + more) bits) ≡ ones_of (bools n bits)
ones_of-more_zeros n zero bits none =
    let same : n + 0 ≡ n = omega arith in
    rw same refl
ones_of-more_zeros n (suc more) bits none =
    let one : n + suc more ≡ (n + more) + 1 = omega arith in
    let rest = ones_of-more_zeros n more bits (λ i low. none i (omega arith)) in
    rw (one, bools-more (n + more) bits, ones_of-append (bools (n + more) bits) (has_bit bits (n + more) ∷ []), none more (omega arith), rest) (omega arith)

-- the ones of a word are at its lowest places where the others are 0
pub ones_of-lowest : (n bits : ℕ) → n ≤ 64 → bits < 2 ^ 64 → ((i : ℕ) → n ≤ i → i < 64 → has_bit bits i ≡ false) → ones_of (bools n bits) ≡ ones bits
ones_of-lowest n bits high fits none =
    let whole : n + (64 - n) ≡ 64 = omega arith in
    sym (ones_of-more_zeros n (64 - n) bits (λ i low. none (n + i) (omega arith) (omega arith))) ∙ ap (λ w. ones_of (bools w bits)) whole ∙ ones_of-bools 64 bits fits

-- ---- one bit

has_bit-not : (n i : ℕ) → n < 2 ^ 64 → i < 64 → has_bit (18446744073709551615 - n) i ≡ not (has_bit n i)
has_bit-not n i fits within =
    let flipped : bit_at (18446744073709551615 - n) i ≡ 1 - bit_at n i = bit_at_not w64 n i fits within in
    rw flipped (grind (arith, nat_tests, bit_at-lt n i))

pub has_bit_past : (n w i : ℕ) → n < 2 ^ w → w ≤ i → has_bit n i ≡ false
has_bit_past n w i fits past = ap (λ b. b == 1) (bit_at_above n w i fits past)

pub has_bit_above : (n w : ℕ) → n < 2 ^ w → has_bit n w ≡ false
has_bit_above n w fits = rw (bit_at_above n w w fits (omega arith)) refl

-- what the second vector has and the first has not, as a word
pub has_bit-lacking : (a b i : ℕ) → a < 2 ^ 64 → i < 64 → has_bit (bit_and b (18446744073709551615 - a)) i ≡ (has_bit b i && not (has_bit a i))
has_bit-lacking a b i fits within = has_bit-and b (18446744073709551615 - a) i ∙ ap (λ x. has_bit b i && x) (has_bit-not a i fits within)

-- ---- a bit put above the others

-- n has the bits of m below w, the digit d at w, and none above
pub record PutsBit (w m d n : ℕ) : Type 0 where
  pub fits : n < 2 ^ (w + 1)
  pub bits : bools (w + 1) n ≡ bools w m ++ (d == 1) ∷ []

-- a digit shifted to w
record IsDigitAt (w d x : ℕ) : Type 0 where
  pub fits : x < 2 ^ (w + 1)
  pub here : has_bit x w ≡ (d == 1)
  pub elsewhere : (i : ℕ) → i ≢ w → has_bit x i ≡ false

shifted_digit : (w d : ℕ) → w < 64 → d < 2 → IsDigitAt w d (d * 2 ^ w % 18446744073709551616)
shifted_digit w zero high digit =
    let none : 0 * 2 ^ w % 18446744073709551616 ≡ 0 = omega arith in
    rw none (record { fits = pow_pos (w + 1); here = has_bit-zero w; elsewhere = λ i apart. has_bit-zero i })
shifted_digit w (suc zero) high digit =
    let word : 2 ^ w < 2 ^ 64 = pow-lt high in
    let power : 1 * 2 ^ w % 18446744073709551616 ≡ 2 ^ w = omega arith in
    rw power (record { fits = pow_below w (w + 1) (omega arith); here = rw (bit_at-pow_same w) refl; elsewhere = λ i apart. rw (bit_at-pow_other w i apart) refl })
shifted_digit w (suc (suc d)) high digit = absurd (omega arith)

pub put_bit : (w m d : ℕ) → w < 64 → m < 2 ^ w → d < 2 → PutsBit w m d (bit_or m (d * 2 ^ w % 18446744073709551616))
put_bit w m d high fits digit =
    let shifted = shifted_digit w d high digit in
    let n = bit_or m (d * 2 ^ w % 18446744073709551616) in
    let m_fits : m < 2 ^ (w + 1) = lt_of_lt_of_le fits (pow_mono (omega arith)) in
    let below : bools w n ≡ bools w m = bools-same w n m (λ i within. has_bit-or m (d * 2 ^ w % 18446744073709551616) i ∙ rw (shifted.elsewhere i (omega arith)) (or-false (has_bit m i))) in
    let top : has_bit n w ≡ (d == 1) = has_bit-or m (d * 2 ^ w % 18446744073709551616) w ∙ rw (shifted.here, has_bit_above m w fits) refl in
    record { fits = or_lt (w + 1) m (d * 2 ^ w % 18446744073709551616) m_fits shifted.fits; bits = bools-more w n ∙ rw (below, top) refl }

-- ---- the lowest bit in which two words differ

-- exactly one of two
differ : Bool → Bool → Bool
differ true b = not b
differ false b = b

has_bit-xor : (a b i : ℕ) → has_bit (bit_xor a b) i ≡ differ (has_bit a i) (has_bit b i)
unfolding differ
has_bit-xor a b i = rw (bit_at_xor a b i) (grind (arith, nat_tests, bit_at-lt a i, bit_at-lt b i))

same_when : (x y : Bool) → differ x y ≡ false → x ≡ y
unfolding differ
same_when true true e = refl
same_when true false e = absurd (true≢false e)
same_when false true e = absurd (true≢false e)
same_when false false e = refl

other_when : (x y : Bool) → differ x y ≡ true → x ≡ not y
unfolding differ
other_when true true e = absurd (false≢true e)
other_when true false e = refl
other_when false true e = refl
other_when false false e = absurd (false≢true e)

xor-same : (a b : ℕ) → a < 2 ^ 64 → b < 2 ^ 64 → bit_xor a b ≡ 0 → a ≡ b
xor-same a b a_fits b_fits e =
    same_word a b a_fits b_fits (λ i low. same_when (has_bit a i) (has_bit b i) (sym (has_bit-xor a b i) ∙ ap (λ n. has_bit n i) e ∙ has_bit-zero i))

pub IsLowestDifference-trailing : (a b : ℕ) → a < 2 ^ 64 → b < 2 ^ 64 → a ≢ b → IsLowestDifference a b (trailing_zeros w64 (bit_xor a b))
IsLowestDifference-trailing a b a_fits b_fits apart =
    let some : bit_xor a b ≢ 0 = λ none. apart (xor-same a b a_fits b_fits none) in
    let both = bit_xor a b in
    let place = trailing_zeros w64 both in
    let lowest = bit_at-trailing_zeros w64 both (pos_of_ne-zero some) (xor_lt 64 a b a_fits b_fits) in
    let differs : has_bit both place ≡ true = rw lowest.1 refl in
    record {
      within = lowest.0;
      same = λ i low. same_when (has_bit a i) (has_bit b i) (sym (has_bit-xor a b i) ∙ rw (lowest.2 i low) refl);
      other = other_when (has_bit a place) (has_bit b place) (sym (has_bit-xor a b place) ∙ differs);
    }

second_is : (x y : Bool) → x ≡ not y → x ≡ true → y ≡ false
second_is x true e one = absurd (false≢true (sym e ∙ one))
second_is x false e one = refl

first_is : (x y : Bool) → x ≡ not y → x ≡ false → y ≡ true
first_is x true e none = refl
first_is x false e none = absurd (true≢false (sym e ∙ none))

-- where one word has 1 at the lowest place at which two differ
pub DifferAt-lowest : (a b place : ℕ) → IsLowestDifference a b place → has_bit a place ≡ true → DifferAt (bools 64 a) (bools 64 b) place
DifferAt-lowest a b place h one = record {
  in_first = rw (length-bools 64 a) h.within;
  in_second = rw (length-bools 64 b) h.within;
  agree = λ i low.
      let within : i < 64 = omega (arith, h.within) in
      rw (get_or-bools 64 a i true within, get_or-bools 64 b i true within) (h.same i low);
  one = get_or-bools 64 a place true h.within ∙ one;
  zero = get_or-bools 64 b place true h.within ∙ second_is (has_bit a place) (has_bit b place) h.other one;
}

pub IsLowestDifference-swap : (a b place : ℕ) → IsLowestDifference a b place → has_bit a place ≡ false → IsLowestDifference b a place × (has_bit b place ≡ true)
IsLowestDifference-swap a b place h none =
    let one : has_bit b place ≡ true = first_is (has_bit a place) (has_bit b place) h.other none in
    (record { within = h.within; same = λ i low. sym (h.same i low); other = one ∙ sym (ap not none) }, one)

-- ---- a word moved by some places

pub has_bit-shr : (bits place i : ℕ) → has_bit (bits / 2 ^ place) i ≡ has_bit bits (place + i)
has_bit-shr bits place i = rw (shr-shr bits place i) refl

bit_at-mod_word : (n i : ℕ) → i < 64 → bit_at (n % 18446744073709551616) i ≡ bit_at n i
bit_at-mod_word n i within =
    let split : 64 ≡ (63 - i + 1) + i = omega arith in
    ap (λ k. n % 2 ^ k / 2 ^ i % 2) split ∙ ap (λ x. x % 2) (field_of n (63 - i + 1) i) ∙ mod-mod-pow (n / 2 ^ i) (63 - i) 1

plus_zero : (n : ℕ) → n ≡ n + 0
plus_zero n = omega arith

pub has_bit-shl_low : (bits place i : ℕ) → i < 64 → i < place → has_bit (bits * 2 ^ place % 18446744073709551616) i ≡ false
has_bit-shl_low bits place i within low =
    ap (λ b. b == 1) (bit_at-mod_word (bits * 2 ^ place) i within ∙ ap (λ n. bit_at n i) (plus_zero (bits * 2 ^ place)) ∙ bit_at_cat_low bits place 0 i low ∙ bit_at-zero i)

pub has_bit-shl_high : (bits place i : ℕ) → i < 64 → place ≤ i → has_bit (bits * 2 ^ place % 18446744073709551616) i ≡ has_bit bits (i - place)
has_bit-shl_high bits place i within high =
    ap (λ b. b == 1) (bit_at-mod_word (bits * 2 ^ place) i within ∙ ap (λ n. bit_at n i) (plus_zero (bits * 2 ^ place)) ∙ bit_at_cat_high bits place 0 i (pow_pos place) high)

-- ---- one bit changed

-- a word has a bit at a place, and the others of another word
pub record SetsPlace (word place : ℕ) (bit : Bool) (new : ℕ) : Type 0 where
  pub fits : new < 2 ^ 64
  pub here : has_bit new place ≡ bit
  pub others : (i : ℕ) → i < 64 → i ≢ place → has_bit new i ≡ has_bit word i

pub SetsPlace-one : (word place : ℕ) → place < 64 → word < 2 ^ 64 → SetsPlace word place true (bit_or word (1 * 2 ^ place % 18446744073709551616))
SetsPlace-one word place within fits = record {
  fits = or_lt 64 word (1 * 2 ^ place % 18446744073709551616) fits (omega arith);
  here = ap (λ b. b == 1) (bit_at_set_same w64 word place within);
  others = λ i low apart. ap (λ b. b == 1) (bit_at_set_other w64 word place within i apart);
}

pub SetsPlace-zero : (word place : ℕ) → place < 64 → word < 2 ^ 64 → SetsPlace word place false (bit_and word (18446744073709551615 - 1 * 2 ^ place % 18446744073709551616))
SetsPlace-zero word place within fits = record {
  fits = omega (arith, and_le_l word (18446744073709551615 - 1 * 2 ^ place % 18446744073709551616));
  here = ap (λ b. b == 1) (bit_at_clear_same w64 word place within);
  others = λ i low apart. ap (λ b. b == 1) (bit_at_clear_other w64 word place within i low apart);
}

-- ---- the lowest places

pub IsOnesBelow-full : (width start : ℕ) → start + 64 ≤ width → IsOnesBelow width start 18446744073709551615
IsOnesBelow-full width start full = record {
  below = λ place within low. ap (λ b. b == 1) (bit_at_ones 64 place within);
  past = λ place within past. absurd (omega arith);
}

pub IsOnesBelow-none : (width start : ℕ) → width ≤ start → IsOnesBelow width start 0
IsOnesBelow-none width start none = record {
  below = λ place within low. absurd (omega arith);
  past = λ place within past. has_bit-zero place;
}

pub IsOnesBelow-part : (width start : ℕ) → start < width → width - start < 64 → IsOnesBelow width start (1 * 2 ^ (width - start) % 18446744073709551616 - 1)
IsOnesBelow-part width start some part =
    let one : 1 * 2 ^ (width - start) % 18446744073709551616 ≡ 2 ^ (width - start) = one_shl (width - start) 64 part in
    rw one (record {
      below = λ place within low. ap (λ b. b == 1) (bit_at_ones (width - start) place (omega arith));
      past = λ place within past. ap (λ b. b == 1) (bit_at_ones_above (width - start) place (omega arith));
    })

-- ---- the loops over the places of a word

-- of the first places of a word, those at the ones of the mask were put into a word
pub record Restricts (self mask place width bits : ℕ) : Type 0 where
  pub counted : width ≡ ones_of (bools place mask)
  pub fits : bits < 2 ^ width
  pub so_far : bools width bits ≡ restrict_of (bools place self) (bools place mask)

pub Restricts-none : (self mask : ℕ) → Restricts self mask 0 0 0
Restricts-none self mask = record {
  counted = rw (bools-zero mask) refl;
  fits = lit< tt;
  so_far = rw (bools-zero 0, bools-zero self) refl;
}

-- the ones of the first places of a mask are at most the places
ones-most : (mask place : ℕ) → ones_of (bools place mask) ≤ place
ones-most mask place = omega (arith, ones_of-le (bools place mask), length-bools place mask)

ones-more : (mask place : ℕ) → ones_of (bools (place + 1) mask) ≡ ones_of (bools place mask) + (if has_bit mask place then 1 else 0)
ones-more mask place = rw (bools-more place mask, ones_of-append (bools place mask) (has_bit mask place ∷ [])) (omega arith)

same_length : (place self mask : ℕ) → length (bools place self) ≡ length (bools place mask)
same_length place self mask = length-bools place self ∙ sym (length-bools place mask)

-- one place more
restrict_of-more : (self mask place : ℕ) → restrict_of (bools (place + 1) self) (bools (place + 1) mask) ≡ restrict_of (bools place self) (bools place mask) ++ (if has_bit mask place then has_bit self place ∷ [] else [])
restrict_of-more self mask place =
    rw (bools-more place self, bools-more place mask)
    (restrict_of-push (bools place self) (bools place mask) (has_bit self place) (has_bit mask place) (same_length place self mask))

pub Restricts-narrow : (self mask place width bits : ℕ) → place < 64 → Restricts self mask place width bits → width < 64
Restricts-narrow self mask place width bits high h = omega (arith, ones-most mask place, h.counted)

pub Restricts-one : (self mask place width bits : ℕ) → place < 64 → has_bit mask place ≡ true → Restricts self mask place width bits → Restricts self mask (place + 1) (width + 1) (bit_or bits (bit_at self place * 2 ^ width % 18446744073709551616))
Restricts-one self mask place width bits high here h =
    let narrow = Restricts-narrow self mask place width bits high h in
    let put = put_bit width bits (bit_at self place) narrow h.fits (bit_at-lt self place) in
    record {
      counted = rw (ones-more mask place, here, ← h.counted) refl;
      fits = put.fits;
      so_far = put.bits ∙ rw (restrict_of-more self mask place, here, h.so_far) refl;
    }

pub Restricts-zero : (self mask place width bits : ℕ) → has_bit mask place ≡ false → Restricts self mask place width bits → Restricts self mask (place + 1) width bits
Restricts-zero self mask place width bits here h =
    record {
      counted = rw (ones-more mask place, here, ← h.counted) (omega arith);
      fits = h.fits;
      so_far = h.so_far ∙ rw (restrict_of-more self mask place, here) (sym (append-nil (restrict_of (bools place self) (bools place mask))));
    }

-- at the end of the loop
pub Restricts-end : (self mask place width bits : ℕ) → Restricts self mask place width bits → IsRestrictedWord self mask place bits
Restricts-end self mask place width bits h = record { fits = rw (← h.counted) h.fits; value = rw (← h.counted) h.so_far }

-- the first bits of a vector were put at the ones of the first places of a mask, and 1 at its zeros; from holds the bits to come
pub record Spreads (self mask place from bits : ℕ) : Type 0 where
  pub rest : from ≡ self / 2 ^ ones_of (bools place mask)
  pub fits : bits < 2 ^ place
  pub so_far : bools place bits ≡ spread_of (bools (ones_of (bools place mask)) self) (bools place mask)

pub Spreads-none : (self mask : ℕ) → Spreads self mask 0 self 0
Spreads-none self mask = record {
  rest = rw (bools-zero mask) (omega arith);
  fits = lit< tt;
  so_far = rw (bools-zero mask, bools-zero 0) refl;
}

or_with_zero : (y : ℕ) → y < 2 → bit_or y 0 ≡ y
or_with_zero zero h = refl
or_with_zero (suc zero) h = refl
or_with_zero (suc (suc y)) h = absurd (omega arith)

or_with_one : (y : ℕ) → y < 2 → bit_or y 1 ≡ 1
or_with_one zero h = refl
or_with_one (suc zero) h = refl
or_with_one (suc (suc y)) h = absurd (omega arith)

-- the lowest of the bits to come
next_bit : (self mask place from bits : ℕ) → Spreads self mask place from bits → bit_and from 1 ≡ bit_at self (ones_of (bools place mask))
next_bit self mask place from bits h = rw h.rest (shr_and_one self (ones_of (bools place mask)))

Spreads-one : (self mask place from bits : ℕ) → place < 64 → has_bit mask place ≡ true → Spreads self mask place from bits → Spreads self mask (place + 1) (from / 2) (bit_or bits (bit_or (bit_and from 1) 0 * 2 ^ place % 18446744073709551616))
Spreads-one self mask place from bits high here h =
    let k = ones_of (bools place mask) in
    let digit : bit_or (bit_and from 1) 0 ≡ bit_at self k = rw (next_bit self mask place from bits h) (or_with_zero (bit_at self k) (bit_at-lt self k)) in
    let put = put_bit place bits (bit_at self k) high h.fits (bit_at-lt self k) in
    let counted : ones_of (bools (place + 1) mask) ≡ k + 1 = rw (ones-more mask place, here) refl in
    let long : length (bools k self) ≡ ones_of (bools place mask) = length-bools k self in
    rw digit (record {
      rest = rw (counted, h.rest, add-one, pow-suc) (div-div-eq-div-mul self (2 ^ k) 2);
      fits = put.fits;
      so_far = put.bits ∙ rw (counted, bools-more k self, bools-more place mask, here, spread_of-push_one (bools k self) (bools place mask) (has_bit self k) long, h.so_far) refl;
    })

Spreads-zero : (self mask place from bits : ℕ) → place < 64 → has_bit mask place ≡ false → Spreads self mask place from bits → Spreads self mask (place + 1) from (bit_or bits (bit_or (bit_and from 1) 1 * 2 ^ place % 18446744073709551616))
Spreads-zero self mask place from bits high here h =
    let k = ones_of (bools place mask) in
    let digit : bit_or (bit_and from 1) 1 ≡ 1 = rw (next_bit self mask place from bits h) (or_with_one (bit_at self k) (bit_at-lt self k)) in
    let put = put_bit place bits 1 high h.fits (lit< tt) in
    let counted : ones_of (bools (place + 1) mask) ≡ k = rw (ones-more mask place, here) (omega arith) in
    let long : length (bools k self) ≡ ones_of (bools place mask) = length-bools k self in
    rw digit (record {
      rest = rw counted h.rest;
      fits = put.fits;
      so_far = put.bits ∙ rw (counted, bools-more place mask, here, spread_of-push_zero (bools k self) (bools place mask) long, h.so_far) refl;
    })

pub Spreads-more : (self mask place from bits here : ℕ) → place < 64 → here ≡ bit_at mask place → Spreads self mask place from bits → Spreads self mask (place + 1) (from / 2 ^ here) (bit_or bits (bit_or (bit_and from 1) (1 - here) * 2 ^ place % 18446744073709551616))
Spreads-more self mask place from bits zero high is_mask h =
    let same : from / 1 ≡ from = omega arith in
    rw same (Spreads-zero self mask place from bits high (rw (← is_mask) refl) h)
Spreads-more self mask place from bits (suc zero) high is_mask h = Spreads-one self mask place from bits high (rw (← is_mask) refl) h
Spreads-more self mask place from bits (suc (suc here)) high is_mask h = absurd (omega (arith, bit_at-lt mask place))

pub Spreads-end : (self mask place from bits : ℕ) → Spreads self mask place from bits → IsSpreadWord self mask place bits
Spreads-end self mask place from bits h = record { fits = h.fits; value = h.so_far }
