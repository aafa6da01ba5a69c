-- The points of a hand, by how many aces, kings, queens and jacks it has.
use Rattle.std.proofs.Common.{◌≡◌, ℕ, ◌+◌, ◌-◌, ◌*◌, ◌%◌, ◌<◌, ◌≤◌, Bool, true, false, cond, List, [], ◌∷◌, length, filter, refl, ap, ◌∙◌, inl, inr, arith}
use Rattle.std.specs.Prelude.{◌==◌, ◌||◌}
use Rattle.std.proofs.lemmas.Bool.{cases_eq, eq-eqb, ne_eqb}
use Rattle.std.proofs.lemmas.List.Sums.{sum_by-cons}
use Rattle.card_sets.specs.SetWords.{has_card, cards_where, IsCardSet}
use Rattle.card_sets.proofs.Sets.{has_card-cards_where, cards_where-agree, has_card-below}
use Rattle.card_sets.proofs.SetCounts.{length-le_52}
use Rattle.hand_conditions.specs.Conditions.{points, card_points, is_at}

-- ---- the cards at a place

at_one : (place card : ℕ) → place < 13 → card < 52 → ((((false || (card == place)) || (card == place + 13)) || (card == place + 26)) || (card == place + 39)) ≡ is_at place card
at_one place card low within =
    elim (cases_eq (card % 13) place) [
      | inl same ↦ elim (cases_eq card place) [
        | inl e ↦ rw (eq-eqb (card % 13) place same, eq-eqb card place e) refl
        | inr n ↦ elim (cases_eq card (place + 13)) [
          | inl e ↦ rw (eq-eqb (card % 13) place same, ne_eqb card place n, eq-eqb card (place + 13) e) refl
          | inr n13 ↦ elim (cases_eq card (place + 26)) [
            | inl e ↦ rw (eq-eqb (card % 13) place same, ne_eqb card place n, ne_eqb card (place + 13) n13, eq-eqb card (place + 26) e) refl
            | inr n26 ↦ rw (eq-eqb (card % 13) place same, ne_eqb card place n, ne_eqb card (place + 13) n13, ne_eqb card (place + 26) n26, eq-eqb card (place + 39) (omega (arith, same, n, n13, n26))) refl
          ]
        ]
      ]
      | inr other ↦ rw (ne_eqb (card % 13) place other, ne_eqb card place (λ e. omega arith), ne_eqb card (place + 13) (λ e. omega arith), ne_eqb card (place + 26) (λ e. omega arith), ne_eqb card (place + 39) (λ e. omega arith)) refl
    ]

-- four cards put in one by one
pub four_cards : (place : ℕ) (first second third all : List ℕ) → place < 13 → first ≡ cards_where (λ c. has_card [] c || (c == place)) → second ≡ cards_where (λ c. has_card first c || (c == place + 13))
    → third ≡ cards_where (λ c. has_card second c || (c == place + 26)) → all ≡ cards_where (λ c. has_card third c || (c == place + 39)) → all ≡ cards_where (is_at place)
four_cards place first second third all low one two three four =
    four ∙ cards_where-agree (λ c. has_card third c || (c == place + 39)) (is_at place)
    (λ c within.
    ap (λ b. b || (c == place + 39))
    (ap (λ cards. has_card cards c) three ∙ has_card-cards_where (λ d. has_card second d || (d == place + 26)) c within
    ∙ ap (λ b. b || (c == place + 26))
    (ap (λ cards. has_card cards c) two ∙ has_card-cards_where (λ d. has_card first d || (d == place + 13)) c within
    ∙ ap (λ b. b || (c == place + 13)) (ap (λ cards. has_card cards c) one ∙ has_card-cards_where (λ d. has_card [] d || (d == place)) c within)))
    ∙ at_one place c low within)

later : (a b : Bool) → b ≡ true → (a || b) ≡ true
later true b holds = refl
later false b holds = holds

-- of a set the cards that are in another
pub both_at : (place : ℕ) (hand at : List ℕ) → IsCardSet hand → at ≡ cards_where (is_at place) → filter (has_card at) hand ≡ filter (is_at place) hand
both_at place hand at a_set is = same hand (λ c holds. ap (λ cards. has_card cards c) is ∙ has_card-cards_where (is_at place) c (has_card-below hand c a_set holds)) where
  same : (cards : List ℕ) → ((c : ℕ) → has_card cards c ≡ true → has_card at c ≡ is_at place c) → filter (has_card at) cards ≡ filter (is_at place) cards
  same [] agree = refl
  same (x ∷ xs) agree =
      ap (λ b. cond b (x ∷ filter (has_card at) xs) (filter (has_card at) xs)) (agree x (ap (λ b. b || has_card xs x) (eq-eqb x x refl)))
      ∙ ap (λ ys. cond (is_at place x) (x ∷ ys) ys) (same xs (λ c holds. agree c (later (x == c) (has_card xs c) holds)))

-- ---- points

pub points-none : points [] ≡ 0
unfolding points
points-none = refl

-- one if it is so
abbrev pub one_if : Bool → ℕ
one_if b = cond b 1 0

count_more : (place card : ℕ) (cards : List ℕ) → length (filter (is_at place) (card ∷ cards)) ≡ one_if (is_at place card) + length (filter (is_at place) cards)
count_more place card cards = either (is_at place card) where
  either : (b : Bool) → length (cond b (card ∷ filter (is_at place) cards) (filter (is_at place) cards)) ≡ one_if b + length (filter (is_at place) cards)
  either true = omega arith
  either false = omega arith

points_at : (place : ℕ) → place < 13 → place + 2 - 10 ≡ 4 * one_if (place == 12) + 3 * one_if (place == 11) + 2 * one_if (place == 10) + one_if (place == 9)
points_at place low =
    elim (cases_eq place 12) [
      | inl e ↦ rw (eq-eqb place 12 e, ne_eqb place 11 (λ f. omega arith), ne_eqb place 10 (λ f. omega arith), ne_eqb place 9 (λ f. omega arith)) (omega arith)
      | inr n12 ↦ elim (cases_eq place 11) [
        | inl e ↦ rw (ne_eqb place 12 n12, eq-eqb place 11 e, ne_eqb place 10 (λ f. omega arith), ne_eqb place 9 (λ f. omega arith)) (omega arith)
        | inr n11 ↦ elim (cases_eq place 10) [
          | inl e ↦ rw (ne_eqb place 12 n12, ne_eqb place 11 n11, eq-eqb place 10 e, ne_eqb place 9 (λ f. omega arith)) (omega arith)
          | inr n10 ↦ elim (cases_eq place 9) [
            | inl e ↦ rw (ne_eqb place 12 n12, ne_eqb place 11 n11, ne_eqb place 10 n10, eq-eqb place 9 e) (omega arith)
            | inr n9 ↦ rw (ne_eqb place 12 n12, ne_eqb place 11 n11, ne_eqb place 10 n10, ne_eqb place 9 n9) (omega arith)
          ]
        ]
      ]
    ]

pub points-counted : (cards : List ℕ) → points cards ≡ 4 * length (filter (is_at 12) cards) + 3 * length (filter (is_at 11) cards) + 2 * length (filter (is_at 10) cards) + length (filter (is_at 9) cards)
unfolding points
points-counted [] = refl
points-counted (card ∷ cards) =
    let more = sum_by-cons card_points card cards in
    let here = points_at (card % 13) (omega arith) in
    let a = count_more 12 card cards in
    let k = count_more 11 card cards in
    let q = count_more 10 card cards in
    let j = count_more 9 card cards in
    let rest = points-counted cards in
    omega (arith, more, here, a, k, q, j, rest)

few_each : (cards : List ℕ) → points cards ≤ 4 * length cards
unfolding points
few_each [] = omega arith
few_each (card ∷ cards) = let more = sum_by-cons card_points card cards in let rest = few_each cards in omega (arith, more, rest)

pub points-few : (cards : List ℕ) → IsCardSet cards → points cards ≤ 208
points-few cards a_set = let most = length-le_52 cards a_set in let few = few_each cards in omega (arith, most, few)
