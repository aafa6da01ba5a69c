-- A number as the set of the places of its ones.
use Rattle.std.proofs.Common.{◌≡◌, ℕ, zero, suc, ◌+◌, ◌-◌, ◌*◌, ◌/◌, ◌%◌, ◌^◌, ◌<◌, ◌≤◌, Bool, true, false, not, cond, ◌⊎◌, List, [], ◌∷◌, length, Some, None, refl, sym, ap, ap₂, ◌∙◌, inl, inr, arith}
use Rattle.std.specs.Prelude.{◌==◌, ◌&&◌, ◌||◌, filter, find, sum_by, bit_and, bit_or, count_ones, min, max}
use Rattle.std.specs.Int.{bit_at, w64}
use Rattle.std.specs.List.{range_with_len}
use Rattle.std.proofs.Math.Nat.{pow-suc, div-one, mod-one, mod-eq_of_lt}
use Rattle.std.proofs.lemmas.List.Sums.{sum_by-cons}
use Rattle.std.proofs.lemmas.Nat.{shr-shr, mod-pow-add}
use Rattle.std.proofs.lemmas.Nat.Bits.{bit_at-lt, bit_at_and, bit_at_or, bit_at_not, bit_at-pow_same, bit_at-pow_other}
use Rattle.std.proofs.lemmas.Bool.{eq-eqb, ne_eqb, cases_eq, cases_lt}
use lib.Count.{ones, ones_in, ones_step}
use Rattle.bit_lists.specs.Bits.{has_bit, below, places, number_at, among}

-- ---- filters

pub filter-filter : {X : Type 0} (p q : X → Bool) (xs : List X) → filter p (filter q xs) ≡ filter (λ x. q x && p x) xs
filter-filter p q [] = refl
filter-filter p q (x ∷ xs) = head (q x) (filter-filter p q xs)
  where
    head : (b : Bool) → filter p (filter q xs) ≡ filter (λ y. q y && p y) xs → filter p (cond b (x ∷ filter q xs) (filter q xs)) ≡ cond (b && p x) (x ∷ filter (λ y. q y && p y) xs) (filter (λ y. q y && p y) xs)
    head true rest = ap (λ ys. cond (p x) (x ∷ ys) ys) rest
    head false rest = rest

pub find-filter : {X : Type 0} (p q : X → Bool) (xs : List X) → find p (filter q xs) ≡ find (λ x. q x && p x) xs
find-filter p q [] = refl
find-filter p q (x ∷ xs) = head (q x) (find-filter p q xs)
  where
    head : (b : Bool) → find p (filter q xs) ≡ find (λ y. q y && p y) xs → find p (cond b (x ∷ filter q xs) (filter q xs)) ≡ cond (b && p x) (Some x) (find (λ y. q y && p y) xs)
    head true rest = ap (λ r. cond (p x) (Some x) r) rest
    head false rest = rest

-- ---- the numbers from a on, n of them

-- two tests that agree there keep the same numbers
pub filter-range_agree : (p q : ℕ → Bool) (a n : ℕ) → ((i : ℕ) → a ≤ i → i < a + n → p i ≡ q i) → filter p (range_with_len a n) ≡ filter q (range_with_len a n)
filter-range_agree p q a zero agree = refl
filter-range_agree p q a (suc n) agree =
    let here : p a ≡ q a = agree a (omega arith) (omega arith) in
    let rest = filter-range_agree p q (a + 1) n (λ i low high. agree i (omega arith) (omega arith)) in
    ap₂ (λ b xs. cond b (a ∷ xs) xs) here rest

among-cons_if : (b : Bool) (a x : ℕ) (xs : List ℕ) → among (cond b (a ∷ xs) xs) x ≡ ((b && (a == x)) || among xs x)
among-cons_if true a x xs = refl
among-cons_if false a x xs = refl

here_alone : (b : Bool) → ((b && true) || false) ≡ b
here_alone true = refl
here_alone false = refl

not_here : (b c : Bool) → ((b && false) || c) ≡ c
not_here true c = refl
not_here false c = refl

-- a filter of them has a number exactly where the number is one of them and passes
pub among-filter-range_before : (p : ℕ → Bool) (a n x : ℕ) → x < a → among (filter p (range_with_len a n)) x ≡ false
among-filter-range_before p a zero x before = refl
among-filter-range_before p a (suc n) x before =
    among-cons_if (p a) a x (filter p (range_with_len (a + 1) n))
    ∙ ap₂ (λ e r. (p a && e) || r) (ne_eqb a x (λ same. absurd (omega arith))) (among-filter-range_before p (a + 1) n x (omega arith))
    ∙ not_here (p a) false

pub among-filter-range_past : (p : ℕ → Bool) (a n x : ℕ) → a + n ≤ x → among (filter p (range_with_len a n)) x ≡ false
among-filter-range_past p a zero x past = refl
among-filter-range_past p a (suc n) x past =
    among-cons_if (p a) a x (filter p (range_with_len (a + 1) n))
    ∙ ap₂ (λ e r. (p a && e) || r) (ne_eqb a x (λ same. absurd (omega arith))) (among-filter-range_past p (a + 1) n x (omega arith))
    ∙ not_here (p a) false

pub among-filter-range : (p : ℕ → Bool) (a n x : ℕ) → a ≤ x → x < a + n → among (filter p (range_with_len a n)) x ≡ p x
among-filter-range p a zero x low high = absurd (omega arith)
among-filter-range p a (suc n) x low high =
    among-cons_if (p a) a x (filter p (range_with_len (a + 1) n))
    ∙ elim (cases_eq a x) [
      | inl here ↦
          ap₂ (λ e r. (p a && e) || r) (eq-eqb a x here) (among-filter-range_before p (a + 1) n x (omega arith)) ∙ here_alone (p a) ∙ ap p here
      | inr later ↦
          ap₂ (λ e r. (p a && e) || r) (ne_eqb a x later) (among-filter-range p (a + 1) n x (omega arith) (omega arith)) ∙ not_here (p a) (p x)
    ]

-- the first that passes
pub find-range : (p : ℕ → Bool) (a n k : ℕ) → a ≤ k → k < a + n → p k ≡ true → ((i : ℕ) → a ≤ i → i < k → p i ≡ false) → find p (range_with_len a n) ≡ Some k
find-range p a zero k low high passes none = absurd (omega arith)
find-range p a (suc n) k low high passes none =
    elim (cases_eq a k) [
      | inl here ↦ ap (λ b. cond b (Some a) (find p (range_with_len (a + 1) n))) (ap p here ∙ passes) ∙ ap Some here
      | inr later ↦
          ap (λ b. cond b (Some a) (find p (range_with_len (a + 1) n))) (none a (omega arith) (omega arith))
          ∙ find-range p (a + 1) n k (omega arith) (omega arith) passes (λ i l h. none i (omega arith) h)
    ]

pub find-range_none : (p : ℕ → Bool) (a n : ℕ) → ((i : ℕ) → a ≤ i → i < a + n → p i ≡ false) → find p (range_with_len a n) ≡ None
find-range_none p a zero none = refl
find-range_none p a (suc n) none =
    ap (λ b. cond b (Some a) (find p (range_with_len (a + 1) n))) (none a (omega arith) (omega arith))
    ∙ find-range_none p (a + 1) n (λ i l h. none i (omega arith) (omega arith))

-- ---- what the bits of a word are

two_values : (b : ℕ) → b < 2 → (b ≡ 0) ⊎ (b ≡ 1)
two_values b small = elim (cases_eq b 0) [ inl zeros ↦ inl zeros | inr other ↦ inr (omega arith) ]

by_two_bits : (f g : ℕ → ℕ → Bool) → f 0 0 ≡ g 0 0 → f 0 1 ≡ g 0 1 → f 1 0 ≡ g 1 0 → f 1 1 ≡ g 1 1 → (x y : ℕ) → x < 2 → y < 2 → f x y ≡ g x y
by_two_bits f g both_0 first_0 second_0 both_1 x y small_x small_y =
    elim (two_values x small_x) [
      | inl x_is ↦
          elim (two_values y small_y) [
            | inl y_is ↦ ap₂ f x_is y_is ∙ both_0 ∙ sym (ap₂ g x_is y_is)
            | inr y_is ↦ ap₂ f x_is y_is ∙ first_0 ∙ sym (ap₂ g x_is y_is)
          ]
      | inr x_is ↦
          elim (two_values y small_y) [
            | inl y_is ↦ ap₂ f x_is y_is ∙ second_0 ∙ sym (ap₂ g x_is y_is)
            | inr y_is ↦ ap₂ f x_is y_is ∙ both_1 ∙ sym (ap₂ g x_is y_is)
          ]
    ]

pub has_bit-and : (a b i : ℕ) → has_bit (bit_and a b) i ≡ (has_bit a i && has_bit b i)
has_bit-and a b i =
    ap (λ x. x == 1) (bit_at_and a b i)
    ∙ by_two_bits (λ x y. min x y == 1) (λ x y. (x == 1) && (y == 1)) refl refl refl refl (bit_at a i) (bit_at b i) (bit_at-lt a i) (bit_at-lt b i)

pub has_bit-or : (a b i : ℕ) → has_bit (bit_or a b) i ≡ (has_bit a i || has_bit b i)
has_bit-or a b i =
    ap (λ x. x == 1) (bit_at_or a b i)
    ∙ by_two_bits (λ x y. max x y == 1) (λ x y. (x == 1) || (y == 1)) refl refl refl refl (bit_at a i) (bit_at b i) (bit_at-lt a i) (bit_at-lt b i)

-- `!n` at 64 bits
pub has_bit-not : (n i : ℕ) → n < 2 ^ 64 → i < 64 → has_bit (2 ^ 64 - 1 - n) i ≡ not (has_bit n i)
has_bit-not n i fits within =
    ap (λ x. x == 1) (bit_at_not w64 n i fits within)
    ∙ by_two_bits (λ x y. 1 - x == 1) (λ x y. not (x == 1)) refl refl refl refl (bit_at n i) (bit_at n i) (bit_at-lt n i) (bit_at-lt n i)

pub has_bit-pow : (k i : ℕ) → has_bit (2 ^ k) i ≡ (i == k)
has_bit-pow k i =
    elim (cases_eq i k) [
      | inl same ↦ ap (λ j. has_bit (2 ^ k) j) same ∙ ap (λ x. x == 1) (bit_at-pow_same k) ∙ sym (eq-eqb i k same)
      | inr other ↦ ap (λ x. x == 1) (bit_at-pow_other k i other) ∙ sym (ne_eqb i k other)
    ]

-- ---- the number of a set of places

half_shift : (n a : ℕ) → n / 2 ^ (a + 1) ≡ n / 2 ^ a / 2
half_shift n a = sym (shr-shr n a 1)

split_low : (m w : ℕ) → m % 2 ^ suc w ≡ (m / 2 % 2 ^ w) * 2 + m % 2
split_low m w = let e : w + 1 ≡ suc w = omega arith in ap (λ j. m % 2 ^ j) (sym e) ∙ mod-pow-add m w 1

sum-cons_if : (b : Bool) (a : ℕ) (xs : List ℕ) → sum_by (λ i. 2 ^ i) (cond b (a ∷ xs) xs) ≡ cond b (2 ^ a) 0 + sum_by (λ i. 2 ^ i) xs
sum-cons_if true a xs = sum_by-cons (λ i. 2 ^ i) a xs
sum-cons_if false a xs = omega arith

bit_value : (n a : ℕ) → cond (has_bit n a) (2 ^ a) 0 ≡ (n / 2 ^ a % 2) * 2 ^ a
bit_value n a =
    elim (cases_lt (n / 2 ^ a % 2) 1) [
      | inl low ↦
          let zeros : n / 2 ^ a % 2 ≡ 0 = omega arith in
          ap (λ r. cond (r == 1) (2 ^ a) 0) zeros ∙ sym (ap (λ r. r * 2 ^ a) zeros ∙ omega arith)
      | inr high ↦
          let ones : n / 2 ^ a % 2 ≡ 1 = omega (arith, bit_at-lt n a) in
          ap (λ r. cond (r == 1) (2 ^ a) 0) ones ∙ sym (ap (λ r. r * 2 ^ a) ones ∙ omega arith)
    ]

-- the places of a number's ones add up to it
sum-range : (n a w : ℕ) → sum_by (λ i. 2 ^ i) (filter (has_bit n) (range_with_len a w)) ≡ (n / 2 ^ a % 2 ^ w) * 2 ^ a
sum-range n a zero = sym (ap (λ x. x * 2 ^ a) (mod-one (n / 2 ^ a)) ∙ omega arith)
sum-range n a (suc w) =
    let m = n / 2 ^ a in
    let rest : sum_by (λ i. 2 ^ i) (filter (has_bit n) (range_with_len (a + 1) w)) ≡ (m / 2 % 2 ^ w) * 2 ^ (a + 1) =
    sum-range n (a + 1) w ∙ ap (λ x. (x % 2 ^ w) * 2 ^ (a + 1)) (half_shift n a) in
    let power : 2 ^ (a + 1) ≡ 2 ^ a * 2 = ap (λ j. 2 ^ j) (let e : a + 1 ≡ suc a = omega arith in e) ∙ pow-suc 2 a in
    let upper : sum_by (λ i. 2 ^ i) (filter (has_bit n) (range_with_len (a + 1) w)) ≡ (m / 2 % 2 ^ w) * (2 ^ a * 2) = rest ∙ ap (λ x. (m / 2 % 2 ^ w) * x) power in
    sum-cons_if (has_bit n a) a (filter (has_bit n) (range_with_len (a + 1) w))
    ∙ ap₂ (λ x y. x + y) (bit_value n a) upper
    ∙ (let e : m % 2 * 2 ^ a + (m / 2 % 2 ^ w) * (2 ^ a * 2) ≡ ((m / 2 % 2 ^ w) * 2 + m % 2) * 2 ^ a = omega arith in e)
    ∙ sym (ap (λ x. x * 2 ^ a) (split_low m w))

pub number_at-places : (w n : ℕ) → n < 2 ^ w → number_at (places w n) ≡ n
unfolding number_at places below
number_at-places w n fits = sum-range n 0 w ∙ omega arith ∙ ap (λ x. x % 2 ^ w) (div-one n) ∙ mod-eq_of_lt fits

-- ---- how many places

length-cons_if : (b : Bool) (a : ℕ) (xs : List ℕ) → length (cond b (a ∷ xs) xs) ≡ cond b 1 0 + length xs
length-cons_if true a xs = omega arith
length-cons_if false a xs = omega arith

bit_count : (b : ℕ) → b < 2 → cond (b == 1) 1 0 ≡ b
bit_count b small = elim (two_values b small) [ inl zeros ↦ ap (λ x. cond (x == 1) 1 0) zeros ∙ sym zeros | inr one ↦ ap (λ x. cond (x == 1) 1 0) one ∙ sym one ]

length-range : (n a w : ℕ) → length (filter (has_bit n) (range_with_len a w)) ≡ ones (n / 2 ^ a % 2 ^ w)
unfolding ones ones_in
length-range n a zero = sym (ap ones (mod-one (n / 2 ^ a)))
length-range n a (suc w) =
    let m = n / 2 ^ a in
    let rest : length (filter (has_bit n) (range_with_len (a + 1) w)) ≡ ones (m / 2 % 2 ^ w) = length-range n (a + 1) w ∙ ap (λ x. ones (x % 2 ^ w)) (half_shift n a) in
    let low : m % 2 ^ suc w % 2 ≡ m % 2 = omega (arith, split_low m w) in
    let high : m % 2 ^ suc w / 2 ≡ m / 2 % 2 ^ w = omega (arith, split_low m w) in
    length-cons_if (has_bit n a) a (filter (has_bit n) (range_with_len (a + 1) w))
    ∙ ap₂ (λ x y. x + y) (bit_count (m % 2) (omega arith)) rest
    ∙ sym (ones_step (m % 2 ^ suc w) ∙ ap₂ (λ x y. x + ones y) low high)

-- the places are as many as the ones
pub length-places : (w n : ℕ) → n < 2 ^ w → length (places w n) ≡ count_ones n
unfolding places below
length-places w n fits = length-range n 0 w ∙ ap (λ x. ones (x % 2 ^ w)) (div-one n) ∙ ap ones (mod-eq_of_lt fits)

-- ---- a word's places as a filter of the numbers below its width

pub places-from_bits : (t : ℕ → Bool) (w n : ℕ) → ((i : ℕ) → i < w → has_bit n i ≡ t i) → places w n ≡ filter t (below w)
unfolding places below
places-from_bits t w n bits = filter-range_agree (has_bit n) t 0 w (λ i low high. bits i (omega arith))

-- two tests that agree at the places keep the same places
pub filter-places_agree : (p q : ℕ → Bool) (w n : ℕ) → ((i : ℕ) → i < w → has_bit n i ≡ true → p i ≡ q i) → filter p (places w n) ≡ filter q (places w n)
unfolding places below
filter-places_agree p q w n agree =
    filter-filter p (has_bit n) (below w)
    ∙ filter-range_agree (λ i. has_bit n i && p i) (λ i. has_bit n i && q i) 0 w (λ i low high. and_agree (has_bit n i) (p i) (q i) (agree i (omega arith)))
    ∙ sym (filter-filter q (has_bit n) (below w))
  where
    and_agree : (b x y : Bool) → (b ≡ true → x ≡ y) → (b && x) ≡ (b && y)
    and_agree true x y same = same refl
    and_agree false x y same = refl

pub among-places : (w n i : ℕ) → i < w → among (places w n) i ≡ has_bit n i
unfolding places below
among-places w n i within = among-filter-range (has_bit n) 0 w i (omega arith) (omega arith)

pub among-places_past : (w n i : ℕ) → w ≤ i → among (places w n) i ≡ false
unfolding places below
among-places_past w n i past = among-filter-range_past (has_bit n) 0 w i (omega arith)

pub places-and : (w a b : ℕ) → places w (bit_and a b) ≡ filter (has_bit b) (places w a)
unfolding places below
places-and w a b = filter-range_agree _ _ 0 w (λ i low high. has_bit-and a b i) ∙ sym (filter-filter (has_bit b) (has_bit a) (below w))

-- the lowest one
pub find-places : (w n k : ℕ) → k < w → has_bit n k ≡ true → ((i : ℕ) → i < k → has_bit n i ≡ false) → find (λ _. true) (places w n) ≡ Some k
unfolding places below
find-places w n k within one none =
    find-filter (λ _. true) (has_bit n) (below w)
    ∙ find-range (λ i. has_bit n i && true) 0 w k (omega arith) (omega arith) (ap (λ b. b && true) one) (λ i low high. ap (λ b. b && true) (none i high))
