-- The last card of a set, and the highest one of its word.
use Rattle.std.proofs.Common.{◌≡◌, ℕ, ◌+◌, ◌-◌, ◌*◌, ◌/◌, ◌^◌, ◌<◌, ◌≤◌, Bool, true, false, cond, List, [], ◌∷◌, inl, inr, refl, add-one, sym, ap, ap₂, ◌∙◌, arith}
use Rattle.std.specs.Prelude.{◌==◌, ◌&&◌, ◌||◌, ◌%◌, filter, nat_lt}
use Rattle.std.specs.List.{list_all}
use Rattle.std.proofs.Math.Nat.{pow-succ'}
use Rattle.std.proofs.lemmas.Bool.{cases_lt, lt-ltb, le-ltb, both_ways, eq-eqb, or_right, and_right, or_cases, eqb-true, false≢true}
use Rattle.std.proofs.lemmas.Nat.{pow_below, shr_high}
use Rattle.std.proofs.lemmas.Nat.Bits.{bit_at_above}
use Rattle.bit_lists.specs.Bits.{has_bit, places}
use Rattle.bit_lists.proofs.Places.{among-places_past}
use Rattle.card_sets.specs.SetWords.{has_card, IsLast}
use Rattle.card_sets.proofs.Sets.{filter-all}
use Rattle.card_sets.proofs.Words.{has_card-places}

-- ---- the highest one of a word

pub highest_within : (n r : ℕ) → 2 ^ r ≤ n → n < 2 ^ 52 → r < 52
highest_within n r low fits = elim (cases_lt r 52) [
  | inl within ↦ within
  | inr past ↦ elim (cases_lt 52 r) [
    | inl more ↦ absurd (omega (arith, pow_below 52 r more))
    | inr less ↦ (let same : r ≡ 52 = omega arith in absurd (omega (arith, ap (λ k. 2 ^ k) same)))
  ]
]

highest_bit : (n r : ℕ) → 2 ^ r ≤ n → n < 2 * 2 ^ r → has_bit n r ≡ true
highest_bit n r low high =
    let rest : n - 2 ^ r < 2 ^ r = omega arith in
    let split : 1 * 2 ^ r + (n - 2 ^ r) ≡ n = omega arith in
    let one : n / 2 ^ r ≡ 1 = ap (λ m. m / 2 ^ r) (sym split) ∙ shr_high 1 r (n - 2 ^ r) rest in
    ap (λ q. (q % 2) == 1) one

above_highest : (n r d : ℕ) → n < 2 * 2 ^ r → r < d → has_bit n d ≡ false
above_highest n r d high past = ap (λ b. b == 1) (bit_at_above n (r + 1) d (omega (arith, twice r)) (omega arith))
  where
    twice : (k : ℕ) → 2 ^ (k + 1) ≡ 2 * 2 ^ k
    twice k = ap (λ n. 2 ^ n) (add-one k) ∙ pow-succ' 2 k

pub IsLast-places : (n r : ℕ) → 2 ^ r ≤ n → n < 2 * 2 ^ r → n < 2 ^ 52 → IsLast r (places 52 n)
IsLast-places n r low high fits =
    let within = highest_within n r low fits in
    record {
      held = has_card-places n r within ∙ highest_bit n r low high;
      last = λ d held. elim (cases_lt r d) [
        | inr before ↦ before
        | inl past ↦ elim (cases_lt d 52) [
          | inl below_52 ↦ absurd (both_ways (has_card (places 52 n) d) (has_card-places n d below_52 ∙ above_highest n r d high past) held)
          | inr beyond ↦ absurd (both_ways (has_card (places 52 n) d) (among-places_past 52 n d beyond) held)
        ]
      ];
    }

-- ---- the cards after each of a set

filter-agree : (p q : ℕ → Bool) (xs : List ℕ) → ((c : ℕ) → p c ≡ q c) → filter p xs ≡ filter q xs
filter-agree p q [] same = refl
filter-agree p q (x ∷ xs) same = ap₂ (λ b ys. cond b (x ∷ ys) ys) (same x) (filter-agree p q xs same)

each_before : (c : ℕ) (xs : List ℕ) → ((d : ℕ) → has_card xs d ≡ true → d < c) → list_all (λ d. nat_lt d c) xs ≡ true
each_before c [] before = refl
each_before c (x ∷ xs) before =
    ap₂ (λ a b. a && b) (lt-ltb x c (before x (ap (λ e. e || has_card xs x) (eq-eqb x x refl))))
    (each_before c xs (λ d held. before d (or_right (x == d) (has_card xs d) held)))

one_not_before : (card c : ℕ) (xs : List ℕ) → has_card xs card ≡ true → c ≤ card → list_all (λ d. nat_lt d c) xs ≡ false
one_not_before card c [] held past = absurd (false≢true held)
one_not_before card c (x ∷ xs) held past = elim (or_cases (x == card) (has_card xs card) held) [
  | inl same ↦ ap (λ a. a && list_all (λ d. nat_lt d c) xs) (le-ltb x c (omega (arith, eqb-true x card same)))
  | inr later ↦ and_right (nat_lt x c) (list_all (λ d. nat_lt d c) xs) (one_not_before card c xs later past)
]

-- a card comes after each card of a set if it comes after the last
after_last : (card c : ℕ) (xs : List ℕ) → IsLast card xs → nat_lt card c ≡ list_all (λ d. nat_lt d c) xs
after_last card c xs last = elim (cases_lt card c) [
  | inl past ↦ lt-ltb card c past ∙ sym (each_before c xs (λ d held. omega (arith, last.last d held)))
  | inr before ↦ le-ltb card c before ∙ sym (one_not_before card c xs last.held before)
]

pub after_each_is : (card : ℕ) (xs ys : List ℕ) → IsLast card xs → filter (nat_lt card) ys ≡ filter (λ c. list_all (λ d. nat_lt d c) xs) ys
after_each_is card xs ys last = filter-agree (nat_lt card) (λ c. list_all (λ d. nat_lt d c) xs) ys (λ c. after_last card c xs last)

-- each card comes after all of none
pub after_none : (xs ys : List ℕ) → xs ≡ [] → ys ≡ filter (λ c. list_all (λ d. nat_lt d c) xs) ys
after_none xs ys none = sym (ap (λ zs. filter (λ c. list_all (λ d. nat_lt d c) zs) ys) none ∙ filter-all (λ c. true) ys (λ c held. refl))
