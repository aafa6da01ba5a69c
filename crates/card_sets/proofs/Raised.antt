-- A word whose cards below a place go up one place.
use Rattle.std.proofs.Common.{◌≡◌, ℕ, zero, suc, ◌+◌, ◌-◌, ◌*◌, ◌/◌, ◌%◌, ◌^◌, ◌<◌, ◌≤◌, Bool, true, false, not, List, [], ◌∷◌, map, inl, inr, refl, sym, ap, ap₂, ◌∙◌, arith}
use Rattle.std.specs.Prelude.{◌==◌, ◌&&◌, ◌||◌, filter, bit_and, bit_or, nat_lt}
use Rattle.std.specs.Int.{bit_at}
use Rattle.std.proofs.lemmas.Bool.{cases_eq, cases_lt, lt-ltb, le-ltb, eq-eqb, ne_eqb}
use Rattle.std.proofs.lemmas.Nat.{and_le_l, and_le_r, shl-shr, pow_below}
use Rattle.std.proofs.lemmas.Nat.Bits.{bit_at-suc, bit_at_lowest, bit_at_ones, bit_at_ones_above, ones_shl, bit_at_mask_inside, bit_at_mask_below}
use Rattle.bit_lists.specs.Bits.{has_bit, places}
use Rattle.bit_lists.proofs.Places.{has_bit-and, among-places_past}
use Rattle.card_sets.specs.Cards.{suit_of, same_suit}
use Rattle.card_sets.specs.SetWords.{has_card, cards_where}
use Rattle.card_sets.specs.Raised.{is_below, with_raised}
use Rattle.card_sets.proofs.Sets.{has_card-cards_where, cards_where-agree, has_card-filter, filter-cards_where, same_set, IsCardSet-cards_where, IsCardSet-filter}
use Rattle.card_sets.proofs.Words.{has_card-places, IsCardSet-places, places-or, places-minus, places-masked}

-- ---- one place higher

pub raised-first : (xs : List ℕ) → has_card (map (λ c. c + 1) xs) 0 ≡ false
raised-first [] = refl
raised-first (x ∷ xs) = ap₂ (λ a b. a || b) (ne_eqb (x + 1) 0 (λ e. omega (arith, e))) (raised-first xs)

same_next : (x c : ℕ) → (x + 1 == suc c) ≡ (x == c)
same_next x c = elim (cases_eq x c) as (λ _. (x + 1 == suc c) ≡ (x == c)) [
  | inl e ↦ eq-eqb (x + 1) (suc c) (omega (arith, e)) ∙ sym (eq-eqb x c e)
  | inr f ↦ ne_eqb (x + 1) (suc c) (λ e. f (omega (arith, e))) ∙ sym (ne_eqb x c f)
]

pub raised-next : (xs : List ℕ) (c : ℕ) → has_card (map (λ c. c + 1) xs) (suc c) ≡ has_card xs c
raised-next [] c = refl
raised-next (x ∷ xs) c = ap₂ (λ a b. a || b) (same_next x c) (raised-next xs c)

-- ---- the word

module _ (n place mask : ℕ) (fits : n < 2 ^ 52) (within : place < 52) (is : places 52 mask ≡ cards_where (λ c. same_suit (suit_of c) (suit_of place))) where
  abbrev low : ℕ
  low = bit_and (bit_and n mask) (2 ^ place - 1)

  pub low-fits : low < 2 ^ 52
  low-fits = omega (arith, fits, and_le_l n mask, and_le_l (bit_and n mask) (2 ^ place - 1))

  half : 2 ^ place ≤ 2 ^ 51
  half = elim (cases_lt place 51) as (λ _. 2 ^ place ≤ 2 ^ 51) [
    | inl less ↦ (let h = pow_below place 51 less in omega arith)
    | inr last ↦ (let e : place ≡ 51 = omega (arith, last, within) in rw e (omega arith))
  ]

  pub shifted : low * 2 ^ 1 % 2 ^ 64 ≡ low * 2 ^ 1
  shifted = (let h = low-fits in omega arith)

  pub shifted-fits : low * 2 ^ 1 < 2 ^ 52
  shifted-fits = (let h = and_le_r (bit_and n mask) (2 ^ place - 1) in let k = half in omega arith)

  under : (c : ℕ) → has_bit (2 ^ place - 1) c ≡ nat_lt c place
  under c = elim (cases_lt c place) as (λ _. has_bit (2 ^ place - 1) c ≡ nat_lt c place) [
    | inl less ↦ ap (λ b. b == 1) (bit_at_ones place c less) ∙ sym (lt-ltb c place less)
    | inr past ↦ ap (λ b. b == 1) (bit_at_ones_above place c past) ∙ sym (le-ltb c place past)
  ]

  low_has : (c : ℕ) → c < 52 → has_bit low c ≡ has_card (filter (is_below place) (places 52 n)) c
  low_has c small =
      has_bit-and (bit_and n mask) (2 ^ place - 1) c
      ∙ ap₂ (λ a b. a && b) (sym (has_card-places (bit_and n mask) c small)
      ∙ ap (λ (x : List ℕ). has_card x c) (places-masked n mask (λ d. same_suit (suit_of d) (suit_of place)) is)
      ∙ has_card-filter (λ d. same_suit (suit_of d) (suit_of place)) (places 52 n) c) (under c)
      ∙ assoc (has_card (places 52 n) c) (same_suit (suit_of c) (suit_of place)) (nat_lt c place)
      ∙ sym (has_card-filter (is_below place) (places 52 n) c)
    where
      assoc : (a b d : Bool) → (a && b && d) ≡ (a && (b && d))
      assoc true b d = refl
      assoc false b d = refl

  stays : (c : ℕ) → c < 52 → has_card (places 52 (bit_and n (2 ^ 64 - 1 - low))) c ≡ has_card (filter (λ d. not (is_below place d)) (places 52 n)) c
  stays c small =
      ap (λ (x : List ℕ). has_card x c) (places-minus n low low-fits)
      ∙ has_card-filter (λ d. not (has_card (places 52 low) d)) (places 52 n) c
      ∙ ap (λ b. has_card (places 52 n) c && not b) (has_card-places low c small ∙ low_has c small ∙ has_card-filter (is_below place) (places 52 n) c)
      ∙ drop (has_card (places 52 n) c) (is_below place c)
      ∙ sym (has_card-filter (λ d. not (is_below place d)) (places 52 n) c)
    where
      drop : (a b : Bool) → (a && not (a && b)) ≡ (a && not b)
      drop true b = refl
      drop false b = refl

  goes : (c : ℕ) → c < 52 → has_card (places 52 (low * 2 ^ 1)) c ≡ has_card (map (λ d. d + 1) (filter (is_below place) (places 52 n))) c
  goes zero small =
      has_card-places (low * 2 ^ 1) 0 small
      ∙ ap (λ b. b == 1) (bit_at_lowest (low * 2 ^ 1) ∙ even)
      ∙ sym (raised-first (filter (is_below place) (places 52 n)))
    where
      even : low * 2 ^ 1 % 2 ≡ 0
      even = omega arith
  goes (suc c) small =
      has_card-places (low * 2 ^ 1) (suc c) small
      ∙ ap (λ b. b == 1) (bit_at-suc (low * 2 ^ 1) c ∙ ap (λ m. bit_at m c) (shl-shr low 1))
      ∙ low_has c (omega (arith, small))
      ∙ sym (raised-next (filter (is_below place) (places 52 n)) c)

  pub places-raised : places 52 (bit_or (bit_and n (2 ^ 64 - 1 - low)) (low * 2 ^ 1 % 2 ^ 64)) ≡ with_raised place (places 52 n)
  places-raised =
      ap (λ m. places 52 (bit_or (bit_and n (2 ^ 64 - 1 - low)) m)) shifted
      ∙ places-or (bit_and n (2 ^ 64 - 1 - low)) (low * 2 ^ 1)
      ∙ cards_where-agree _ _ (λ c small. ap₂ (λ a b. a || b) (stays c small) (goes c small))
