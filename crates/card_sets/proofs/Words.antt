-- A word as a set of cards: what each step on words does to the set.
use Rattle.std.proofs.Common.{◌≡◌, ℕ, suc, ◌+◌, ◌-◌, ◌*◌, ◌/◌, ◌%◌, ◌^◌, ◌<◌, ◌≤◌, ◌⊎◌, Bool, not, ◌&&◌, [], Some, inl, inr, add-one, refl, sym, ap, ap₂, ◌∙◌, arith}
use Rattle.std.specs.Prelude.{nat_eq, ◌==◌, ◌||◌, filter, bit_and, bit_or, nat_lt}
use Rattle.std.specs.Int.{w64, trailing_zeros}
use Rattle.std.proofs.lemmas.Slice.Eq.{bytes_eq-Decides}
use Rattle.std.specs.Cmp.Lexicographic.{pointwise}
use Rattle.std.proofs.lemmas.Bool.{cases_eq, eq-eqb, ne_eqb, false_from_ne_true, cases_lt, lt-ltb, le-ltb, not-false}
use Rattle.std.proofs.lemmas.Nat.{and_le_l, pow_below}
use Rattle.std.proofs.lemmas.Nat.Bits.{bit_at-suc, bit_at-trailing_zeros, bit_at_above, ones_shl, bit_at_mask_inside, bit_at_mask_below}
use Rattle.bit_lists.specs.Bits.{has_bit, below, places, number_at}
use Rattle.bit_lists.proofs.Places.{places-from_bits, places-and, filter-places_agree, among-places, among-places_past, has_bit-or, has_bit-not, has_bit-pow, find-places, number_at-places}
use Rattle.card_sets.specs.Cards.{suit_of, same_suit}
use Rattle.card_sets.specs.SetWords.{has_card, cards_where, IsCardSet, IsSubset, Apart, first_card}
use Rattle.card_sets.proofs.Sets.{IsCardSet-cards_where, has_card-cards_where, cards_where-agree, filter-cards_where, filter-none, fails-filter_nil}

-- a word's places are the cards at which it has a one
pub IsCardSet-places : (n : ℕ) → IsCardSet (places 52 n)
unfolding places cards_where
IsCardSet-places n = IsCardSet-cards_where (has_bit n)

pub has_card-places : (n c : ℕ) → c < 52 → has_card (places 52 n) c ≡ has_bit n c
has_card-places n c within = among-places 52 n c within

-- the word with no one
pub places-zero : places 52 0 ≡ []
unfolding places below
places-zero = refl

pub zero_from_places : (n : ℕ) → n < 2 ^ 52 → places 52 n ≡ [] → n ≡ 0
unfolding number_at
zero_from_places n fits none = sym (number_at-places 52 n fits) ∙ ap number_at none

-- `a | b`
pub places-or : (a b : ℕ) → places 52 (bit_or a b) ≡ cards_where (λ c. has_card (places 52 a) c || has_card (places 52 b) c)
unfolding cards_where
places-or a b =
    places-from_bits _ 52 (bit_or a b) (λ c within. has_bit-or a b c ∙ ap₂ (λ x y. x || y) (sym (has_card-places a c within)) (sym (has_card-places b c within)))

-- `n | 1 << card`
pub places-with : (n card : ℕ) → places 52 (bit_or n (2 ^ card)) ≡ cards_where (λ c. has_card (places 52 n) c || (c == card))
unfolding cards_where
places-with n card =
    places-from_bits _ 52 (bit_or n (2 ^ card)) (λ c within. has_bit-or n (2 ^ card) c ∙ ap₂ (λ x y. x || y) (sym (has_card-places n c within)) (has_bit-pow card c))

-- `a & b`
pub places-both : (a b : ℕ) → places 52 (bit_and a b) ≡ filter (has_card (places 52 b)) (places 52 a)
places-both a b = places-and 52 a b ∙ filter-places_agree (has_bit b) (has_card (places 52 b)) 52 a (λ c within one. sym (has_card-places b c within))

-- `a & !b`
pub places-minus : (a b : ℕ) → b < 2 ^ 52 → places 52 (bit_and a (2 ^ 64 - 1 - b)) ≡ filter (λ c. not (has_card (places 52 b) c)) (places 52 a)
places-minus a b fits =
    places-and 52 a (2 ^ 64 - 1 - b)
    ∙ filter-places_agree (has_bit (2 ^ 64 - 1 - b)) (λ c. not (has_card (places 52 b) c)) 52 a
    (λ c within one. has_bit-not b c (omega arith) (omega arith) ∙ ap not (sym (has_card-places b c within)))

-- `n & !(1 << card)`
pub places-without : (n card : ℕ) → card < 52 → places 52 (bit_and n (2 ^ 64 - 1 - 2 ^ card)) ≡ filter (λ c. not (c == card)) (places 52 n)
places-without n card within =
    places-and 52 n (2 ^ 64 - 1 - 2 ^ card)
    ∙ filter-places_agree (has_bit (2 ^ 64 - 1 - 2 ^ card)) (λ c. not (c == card)) 52 n
    (λ c below_52 one. has_bit-not (2 ^ card) c (omega (arith, pow_below card 52 within)) (omega arith) ∙ ap not (has_bit-pow card c))

-- `n & mask`, for the mask of the cards that pass a test
pub places-masked : (n mask : ℕ) (t : ℕ → Bool) → places 52 mask ≡ cards_where t → places 52 (bit_and n mask) ≡ filter t (places 52 n)
places-masked n mask t is =
    places-both n mask
    ∙ filter-places_agree (has_card (places 52 mask)) t 52 n (λ c within one. ap (λ ys. has_card ys c) is ∙ has_card-cards_where t c within)

-- `n & (MAX << (card + 1))`
pub places-after : (n card : ℕ) → card < 52 → places 52 (bit_and n ((2 ^ 64 - 1) * 2 ^ (card + 1) % 2 ^ 64)) ≡ filter (nat_lt card) (places 52 n)
places-after n card within =
    places-and 52 n ((2 ^ 64 - 1) * 2 ^ (card + 1) % 2 ^ 64)
    ∙ filter-places_agree (has_bit ((2 ^ 64 - 1) * 2 ^ (card + 1) % 2 ^ 64)) (nat_lt card) 52 n (λ c below_52 one. mask c below_52)
  where
    mask : (c : ℕ) → c < 52 → has_bit ((2 ^ 64 - 1) * 2 ^ (card + 1) % 2 ^ 64) c ≡ nat_lt card c
    mask c below_52 =
        ap (λ m. has_bit m c) (ones_shl 64 (card + 1) (omega arith))
        ∙ elim (cases_lt card c) [
          | inl later ↦ ap (λ b. b == 1) (bit_at_mask_inside (card + 1) 64 c (omega arith) (omega arith)) ∙ sym (lt-ltb card c later)
          | inr sooner ↦ ap (λ b. b == 1) (bit_at_mask_below (card + 1) 64 c (omega arith)) ∙ sym (le-ltb card c sooner)
        ]

-- `a & b == 0`
pub Apart-places : (a b : ℕ) → bit_and a b ≡ 0 → Apart (places 52 a) (places 52 b)
Apart-places a b none card holds =
    fails-filter_nil (has_card (places 52 b)) (places 52 a) card (sym (places-both a b) ∙ ap (places 52) none ∙ places-zero) holds

pub zero_from_Apart : (a b : ℕ) → a < 2 ^ 52 → Apart (places 52 a) (places 52 b) → bit_and a b ≡ 0
zero_from_Apart a b fits apart =
    zero_from_places (bit_and a b) (omega (arith, and_le_l a b)) (places-both a b ∙ filter-none (has_card (places 52 b)) (places 52 a) apart)

-- `a & !b == 0`
pub IsSubset-places : (a b : ℕ) → b < 2 ^ 52 → bit_and a (2 ^ 64 - 1 - b) ≡ 0 → IsSubset (places 52 a) (places 52 b)
IsSubset-places a b fits none card holds =
    not-false (has_card (places 52 b) card)
    (fails-filter_nil (λ c. not (has_card (places 52 b) c)) (places 52 a) card (sym (places-minus a b fits) ∙ ap (places 52) none ∙ places-zero) holds)

pub zero_from_IsSubset : (a b : ℕ) → a < 2 ^ 52 → b < 2 ^ 52 → IsSubset (places 52 a) (places 52 b) → bit_and a (2 ^ 64 - 1 - b) ≡ 0
zero_from_IsSubset a b fits_a fits_b part =
    zero_from_places (bit_and a (2 ^ 64 - 1 - b)) (omega (arith, and_le_l a (2 ^ 64 - 1 - b)))
    (places-minus a b fits_b ∙ filter-none (λ c. not (has_card (places 52 b) c)) (places 52 a) (λ c holds. ap not (part c holds)))

-- the lowest one stands for the first card
pub lowest_within : (n : ℕ) → 0 < n → n < 2 ^ 52 → trailing_zeros w64 n < 52
lowest_within n some fits =
    let at_lowest = bit_at-trailing_zeros w64 n some (omega arith) in
    elim (cases_lt (trailing_zeros w64 n) 52) [
      | inl within ↦ within
      | inr past ↦ absurd (omega (arith, at_lowest.1, bit_at_above n 52 (trailing_zeros w64 n) fits past))
    ]

pub first_card-places : (n : ℕ) → 0 < n → n < 2 ^ 52 → first_card (places 52 n) ≡ Some (trailing_zeros w64 n)
first_card-places n some fits =
    let at_lowest = bit_at-trailing_zeros w64 n some (omega arith) in
    find-places 52 n (trailing_zeros w64 n) (lowest_within n some fits) (ap (λ b. b == 1) at_lowest.1) (λ i low. ap (λ b. b == 1) (at_lowest.2 i low))

-- two words are equal where their sets are
pub same_places : (a b : ℕ) → a < 2 ^ 52 → b < 2 ^ 52 → nat_eq a b ≡ pointwise nat_eq (places 52 a) (places 52 b)
same_places a b fits_a fits_b =
    let decides = bytes_eq-Decides (places 52 a) (places 52 b) in
    elim (cases_eq a b) [
      | inl same ↦ eq-eqb a b same ∙ sym (decides.1 (ap (places 52) same))
      | inr other ↦
          ne_eqb a b other
          ∙ sym (false_from_ne_true (pointwise nat_eq (places 52 a) (places 52 b)) (λ yes.
          other (sym (number_at-places 52 a fits_a) ∙ ap number_at (decides.0 yes) ∙ number_at-places 52 b fits_b)))
    ]

-- `n >> 1`: each card moves to the one before it
pub places-down : (n : ℕ) → n < 2 ^ 52 → places 52 (n / 2 ^ 1) ≡ cards_where (λ c. has_card (places 52 n) (c + 1))
unfolding cards_where
places-down n fits = places-from_bits _ 52 (n / 2 ^ 1) (λ c within. ap (λ b. b == 1) (sym (bit_at-suc n c)) ∙ next c within (cases_lt (c + 1) 52))
  where
    next : (c : ℕ) → c < 52 → (c + 1 < 52) ⊎ (52 ≤ c + 1) → has_bit n (suc c) ≡ has_card (places 52 n) (c + 1)
    next c within (inl inside) = rw add-one (sym (has_card-places n (suc c) (omega (arith, inside))))
    next c within (inr past) =
        ap (λ b. b == 1) (bit_at_above n 52 (suc c) fits (omega (arith, past))) ∙ sym (among-places_past 52 n (c + 1) past)

-- the cards before one of their own suit, by a word that has them all
pub places-one_below : (n mask : ℕ) → n < 2 ^ 52 → places 52 mask ≡ cards_where (λ c. same_suit (suit_of c) (suit_of (c + 1)))
    → places 52 (bit_and (n / 2 ^ 1) mask) ≡ cards_where (λ c. has_card (places 52 n) (c + 1) && same_suit (suit_of c) (suit_of (c + 1)))
places-one_below n mask fits is =
    places-masked (n / 2 ^ 1) mask (λ c. same_suit (suit_of c) (suit_of (c + 1))) is
    ∙ ap (filter (λ c. same_suit (suit_of c) (suit_of (c + 1)))) (places-down n fits)
    ∙ filter-cards_where (λ c. same_suit (suit_of c) (suit_of (c + 1))) (λ c. has_card (places 52 n) (c + 1))

-- `mask & (MAX << card)`, for the mask of the cards that pass a test
pub places-from : (mask card : ℕ) (t : ℕ → Bool) → places 52 mask ≡ cards_where t → card < 52
    → places 52 (bit_and mask ((2 ^ 64 - 1) * 2 ^ card % 2 ^ 64)) ≡ cards_where (λ c. t c && not (nat_lt c card))
places-from mask card t is within =
    places-and 52 mask ((2 ^ 64 - 1) * 2 ^ card % 2 ^ 64)
    ∙ ap (filter (has_bit ((2 ^ 64 - 1) * 2 ^ card % 2 ^ 64))) is
    ∙ filter-cards_where (has_bit ((2 ^ 64 - 1) * 2 ^ card % 2 ^ 64)) t
    ∙ cards_where-agree (λ c. t c && has_bit ((2 ^ 64 - 1) * 2 ^ card % 2 ^ 64) c) (λ c. t c && not (nat_lt c card)) (λ c low. ap (λ b. t c && b) (from c low))
  where
    from : (c : ℕ) → c < 52 → has_bit ((2 ^ 64 - 1) * 2 ^ card % 2 ^ 64) c ≡ not (nat_lt c card)
    from c low =
        ap (λ m. has_bit m c) (ones_shl 64 card (omega arith))
        ∙ elim (cases_lt c card) [
          | inl sooner ↦ ap (λ b. b == 1) (bit_at_mask_below card 64 c sooner) ∙ ap not (sym (lt-ltb c card sooner))
          | inr later ↦ ap (λ b. b == 1) (bit_at_mask_inside card 64 c later (omega arith)) ∙ ap not (sym (le-ltb c card later))
        ]
