-- The list of bits of a number.
use Rattle.std.proofs.Common.{◌≡◌, ◌≢◌, ℕ, suc, zero, ◌+◌, ◌-◌, ◌*◌, ◌^◌, ◌/◌, ◌<◌, ◌≤◌, Bool, true, false, ◌&&◌, ◌||◌, List, [], ◌∷◌, ◌++◌, map, length, refl, sym, ap, ◌∙◌, arith, add-one, pow-suc, ◌==◌, if◌then◌else◌, bit_and, bit_or, replicate, slice_get, slice_set, get_or, Some, inl, inr}
use Rattle.std.proofs.lemmas.Bool.{cases_eq}
use Rattle.std.proofs.lemmas.Bool.Decides.{nat_tests}
use Rattle.std.proofs.lemmas.List.{same_lists, length-set, length-replicate, get_or-replicate, get_or-set_same, get_or-set_other}
use Rattle.std.proofs.lemmas.Option.{slice_get-get_or}
use Rattle.std.specs.List.{range_with_len}
use Rattle.std.proofs.lemmas.List.FromFn.{length-map-range_with_len, get_or-map-range_with_len, map-range_with_len_more}
use Rattle.std.proofs.lemmas.Nat.Bits.{bit_at-suc, bit_at_lowest, bit_at-lt, bit_at_and, bit_at_or, bit_at_ones, bit_at-zero}
use Rattle.bit_lists.specs.Bits.{has_bit, below, bools, number_of}

-- ---- one bit

pub has_bit-and : (a b i : ℕ) → has_bit (bit_and a b) i ≡ (has_bit a i && has_bit b i)
has_bit-and a b i = rw (bit_at_and a b i) (grind (arith, nat_tests, bit_at-lt a i, bit_at-lt b i))

pub has_bit-or : (a b i : ℕ) → has_bit (bit_or a b) i ≡ (has_bit a i || has_bit b i)
has_bit-or a b i = rw (bit_at_or a b i) (grind (arith, nat_tests, bit_at-lt a i, bit_at-lt b i))

-- a number with no bit
pub has_bit-zero : (i : ℕ) → has_bit 0 i ≡ false
has_bit-zero i = rw (bit_at-zero i) refl

pub has_bit-ones : (w i : ℕ) → i < w → has_bit (2 ^ w - 1) i ≡ true
has_bit-ones w i h = rw (bit_at_ones w i h) refl

-- ---- a run of numbers

-- a run of numbers, moved by one
map-range-suc : {X : Type 0} (f : ℕ → X) (a n : ℕ) → map f (range_with_len (a + 1) n) ≡ map (λ i. f (i + 1)) (range_with_len a n)
map-range-suc f a zero = refl
map-range-suc f a (suc n) = ap (λ xs. f (a + 1) ∷ xs) (map-range-suc f (a + 1) n)

-- the same function on a run of numbers
pub map-range-same : {X : Type 0} (f g : ℕ → X) (a n : ℕ) → ((i : ℕ) → a ≤ i → i < a + n → f i ≡ g i) → map f (range_with_len a n) ≡ map g (range_with_len a n)
map-range-same f g a zero h = refl
map-range-same f g a (suc n) h =
    let first : f a ≡ g a = h a (omega arith) (omega arith) in
    let others = map-range-same f g (a + 1) n (λ i low high. h i (omega arith) (omega arith)) in
    cc (first, others)

-- ---- the list of bits

pub length-bools : (w n : ℕ) → length (bools w n) ≡ w
unfolding bools below
length-bools w n = length-map-range_with_len (has_bit n) 0 w

pub get_or-bools : (w n i : ℕ) (d : Bool) → i < w → get_or (bools w n) i d ≡ has_bit n i
unfolding bools below
get_or-bools w n i d h = get_or-map-range_with_len (has_bit n) 0 w i i d h (omega arith)

pub slice_get-bools : (w n i : ℕ) → i < w → slice_get (bools w n) i ≡ Some (has_bit n i)
slice_get-bools w n i h =
    let within : i < length (bools w n) = rw (length-bools w n) h in
    slice_get-get_or (bools w n) i true within ∙ ap Some (get_or-bools w n i true h)

-- two numbers with the same bits
pub bools-same : (w a b : ℕ) → ((i : ℕ) → i < w → has_bit a i ≡ has_bit b i) → bools w a ≡ bools w b
unfolding bools below
bools-same w a b h = map-range-same (has_bit a) (has_bit b) 0 w (λ i low high. h i (omega arith))

-- one bit more
pub bools-more : (w n : ℕ) → bools (w + 1) n ≡ bools w n ++ has_bit n w ∷ []
unfolding bools below
bools-more w n = map-range_with_len_more (has_bit n) 0 w w (omega arith)

pub bools-zero : (n : ℕ) → bools 0 n ≡ []
unfolding bools below
bools-zero n = refl

-- the lowest bit, and those of the half
pub bools-suc : (w n : ℕ) → bools (suc w) n ≡ has_bit n 0 ∷ bools w (n / 2)
unfolding bools below
bools-suc w n =
    let step : (i : ℕ) → has_bit n (i + 1) ≡ has_bit (n / 2) i = λ i. rw add-one (ap (λ b. b == 1) (bit_at-suc n i)) in
    let others = map-range-suc (has_bit n) 0 w ∙ map-range-same (λ i. has_bit n (i + 1)) (has_bit (n / 2)) 0 w (λ i low high. step i) in
    ap (λ bs. has_bit n 0 ∷ bs) others

-- a list that agrees with the bits is the list of bits
pub bools-from : (w n : ℕ) (bs : List Bool) → length bs ≡ w → ((i : ℕ) (d : Bool) → i < w → get_or bs i d ≡ has_bit n i) → bools w n ≡ bs
bools-from w n bs e h =
    same_lists (bools w n) bs (length-bools w n ∙ sym e) (λ i d within.
    let i_below : i < w = omega (arith, length-bools w n) in
    get_or-bools w n i d i_below ∙ sym (h i d i_below))

pub bools-ones : (w : ℕ) → bools w (2 ^ w - 1) ≡ replicate w true
bools-ones w = bools-from w (2 ^ w - 1) (replicate w true) (length-replicate w true) (λ i d h. get_or-replicate w i true d h ∙ sym (has_bit-ones w i h))

pub bools-none : (w : ℕ) → bools w 0 ≡ replicate w false
bools-none w = bools-from w 0 (replicate w false) (length-replicate w false) (λ i d h. get_or-replicate w i false d h ∙ sym (has_bit-zero i))

-- one bit changed
pub bools-set : (w n m place : ℕ) (b : Bool) → place < w → has_bit m place ≡ b → ((i : ℕ) → i < w → i ≢ place → has_bit m i ≡ has_bit n i) → bools w m ≡ slice_set (bools w n) place b
bools-set w n m place b within here others =
    bools-from w m (slice_set (bools w n) place b) (length-set (bools w n) place b ∙ length-bools w n) (λ i d h.
    elim (cases_eq i place) [
      | inl same ↦ rw same (get_or-set_same (bools w n) place b d (rw (length-bools w n) within) ∙ sym here)
      | inr apart ↦ get_or-set_other (bools w n) place i b d apart ∙ get_or-bools w n i d h ∙ sym (others i h apart)
    ])

-- ---- a number and its list of bits

-- the lowest bit and the half
bit_and_half : (n : ℕ) → (if has_bit n 0 then 1 else 0) + 2 * (n / 2) ≡ n
bit_and_half n = rw (bit_at_lowest n) (grind (arith, nat_tests))

pub number_of-bools : (w n : ℕ) → n < 2 ^ w → number_of (bools w n) ≡ n
unfolding number_of
number_of-bools zero n h = rw (bools-zero n) (omega arith)
number_of-bools (suc w) n h =
    let halved : n / 2 < 2 ^ w = omega (arith, pow-suc) in
    let rest = number_of-bools w (n / 2) halved in
    rw (bools-suc w n, rest) (bit_and_half n)

-- two numbers of w bits with the same list of bits are equal
pub same_from_bools : (w a b : ℕ) → a < 2 ^ w → b < 2 ^ w → bools w a ≡ bools w b → a ≡ b
same_from_bools w a b a_fits b_fits e = sym (number_of-bools w a a_fits) ∙ ap number_of e ∙ number_of-bools w b b_fits
