-- The cards that count with the next lower one of a suit.
use Rattle.std.proofs.Common.{◌≡◌, ℕ, suc, ◌-◌, ◌<◌, ◌≤◌, ◌⊎◌, true, ◌||◌, eqb, List, Some, None, filter, refl, sym, ap, ◌∙◌, inl, inr, arith}
use Rattle.std.proofs.lemmas.Bool.{true≢false, cases_eq, and_parts, or_cases, eq-eqb, eqb-true}
use Rattle.card_sets.specs.Cards.{suit_of, suit_place, rank_of, card_of, same_suit}
use Rattle.card_sets.specs.SetWords.{has_card, cards_where, IsCardSet, IsSubset, first_card}
use Rattle.card_sets.proofs.Sets.{has_card-cards_where, has_card-below, has_card-filter, find-holds, find-fails, find-first, IsCardSet-filter}
use Rattle.card_sets.proofs.Suits.{same_suit-true, card_of-suit_of, suit_of-card_of}
use Rattle.trick_rules.proofs.CardLists.{or_true}
use Rattle.sure_tricks.proofs.Holding.{suit_test}
use Rattle.equivalent_positions.specs.Alike.{IsClosedUp}
use Rattle.dd_solver.proofs.CarriedBack.{between_suit}
use Rattle.dd_solver.proofs.Gaps.{HasNextLower}

-- a card that counts is a card of its suit that counts
pub no_card_of_suit : (counting : List ℕ) (gap : ℕ) → has_card counting gap ≡ true → first_card (filter (λ c. same_suit (suit_of c) (suit_of gap)) counting) ≡ None → ⊥
no_card_of_suit counting gap h none =
    true≢false (find-fails (λ _. true) (filter (λ c. same_suit (suit_of c) (suit_of gap)) counting) gap none
    (has_card-filter (λ d. same_suit (suit_of d) (suit_of gap)) counting gap ∙ rw (h, suit_test gap (suit_of gap) refl) refl))

module _ (counting : List ℕ) (gap lowest : ℕ) (fits : gap < 52) (closed : IsClosedUp counting) (set : IsCardSet counting) (first : first_card (filter (λ c. same_suit (suit_of c) (suit_of gap)) counting) ≡ Some lowest) where
  abbrev in_suit : List ℕ
  in_suit = filter (λ c. same_suit (suit_of c) (suit_of gap)) counting

  suit_set : IsCardSet in_suit
  suit_set = IsCardSet-filter (λ c. same_suit (suit_of c) (suit_of gap)) counting set

  held : (has_card counting lowest ≡ true) × (same_suit (suit_of lowest) (suit_of gap) ≡ true)
  held = and_parts (has_card counting lowest) (same_suit (suit_of lowest) (suit_of gap)) (sym (has_card-filter (λ c. same_suit (suit_of c) (suit_of gap)) counting lowest) ∙ (find-holds (λ _. true) in_suit lowest first).0)

  lowest_suit : suit_of lowest ≡ suit_of gap
  lowest_suit = same_suit-true (suit_of lowest) (suit_of gap) held.1

  lowest_small : lowest < 52
  lowest_small = has_card-below counting lowest set held.0

  least : (c : ℕ) → has_card counting c ≡ true → suit_of c ≡ suit_of gap → lowest ≤ c
  least c h suit = find-first (λ _. true) in_suit lowest c suit_set first (has_card-filter (λ d. same_suit (suit_of d) (suit_of gap)) counting c ∙ rw (h, suit_test c (suit_of gap) suit) refl) refl

  -- a card of the suit from the lowest one on
  from_lowest : (c : ℕ) → lowest ≤ c → c < 52 → suit_of c ≡ suit_of gap → has_card counting c ≡ true
  from_lowest c over small suit = elim (cases_eq lowest c) as (λ _. has_card counting c ≡ true) [
    | inl e ↦ sym (ap (has_card counting) e) ∙ held.0
    | inr f ↦ closed lowest c held.0 (lowest_suit ∙ sym suit) (omega (arith, over, f)) small
  ]

  -- a card below the gap whose next one counts either counts too, or is next below the lowest one that counts
  counts_or_next : (low : ℕ) → suit_of low ≡ suit_of gap → low < gap → has_card counting (suc low) ≡ true → (has_card counting low ≡ true) ⊎ (lowest ≡ suc low)
  counts_or_next low suit less h =
      let next : suit_of (suc low) ≡ suit_of gap = between_suit low (suc low) gap (omega arith) (omega (arith, less)) fits suit ∙ suit in
      let under = least (suc low) h next in
      elim (cases_eq lowest (suc low)) as (λ _. (has_card counting low ≡ true) ⊎ (lowest ≡ suc low)) [
        | inl e ↦ inr e
        | inr f ↦ inl (from_lowest low (omega (arith, under, f)) (omega (arith, less, fits)) suit)
      ]

  -- the lowest one that counts is the lowest of its suit
  pub at_the_end : rank_of lowest ≤ 2 → HasNextLower gap counting counting
  at_the_end end low suit less h = elim (counts_or_next low suit less h) as (λ _. has_card counting low ≡ true) [
    | inl counts ↦ counts
    | inr e ↦
        (let places = ap suit_place (suit ∙ sym lowest_suit) in
        let one = card_of-suit_of low (omega (arith, less, fits)) in
        let other = card_of-suit_of lowest lowest_small in
        absurd (omega (arith, places, one, other, e, end)))
  ]

  module _ (below : 2 < rank_of lowest) (more : List ℕ) (is : more ≡ cards_where (λ c. has_card counting c || eqb c (lowest - 1))) where
    positive : 0 < lowest
    positive = (let is = card_of-suit_of lowest lowest_small in omega (arith, is, below))

    next_card : card_of (suit_of lowest) (rank_of lowest - 1) ≡ lowest - 1
    next_card = (let is = card_of-suit_of lowest lowest_small in omega (arith, is, below))

    next_place : suit_of (lowest - 1) ≡ suit_of gap
    next_place = sym (ap suit_of next_card) ∙ suit_of-card_of (suit_of lowest) (rank_of lowest - 1) (omega (arith, below)) (omega arith) ∙ lowest_suit

    value : (c : ℕ) → c < 52 → has_card more c ≡ (has_card counting c || eqb c (lowest - 1))
    value c small = ap (λ (x : List ℕ). has_card x c) is ∙ has_card-cards_where (λ d. has_card counting d || eqb d (lowest - 1)) c small

    pub more_within : IsSubset counting more
    more_within c h = value c (has_card-below counting c set h) ∙ ap (λ b. b || eqb c (lowest - 1)) h

    pub more_closed : IsClosedUp more
    more_closed card higher h suit order small =
        elim (or_cases (has_card counting card) (eqb card (lowest - 1)) (sym (value card (omega (arith, order, small))) ∙ h)) as (λ _. has_card more higher ≡ true) [
          | inl counts ↦ more_within higher (closed card higher counts suit order small)
          | inr here ↦
              (let e = eqb-true card (lowest - 1) here in
              more_within higher (from_lowest higher (omega (arith, e, order, positive)) small (sym suit ∙ ap suit_of e ∙ next_place)))
        ]

    pub more_next : HasNextLower gap counting more
    more_next low suit less h = elim (counts_or_next low suit less h) as (λ _. has_card more low ≡ true) [
      | inl counts ↦ more_within low counts
      | inr e ↦
          value low (omega (arith, less, fits))
          ∙ ap (λ b. has_card counting low || b) (eq-eqb low (lowest - 1) (omega (arith, e)))
          ∙ or_true (has_card counting low)
    ]
