-- Equal cards: what is kept, and what counts with them.
use Rattle.std.proofs.Common.{◌≡◌, ◌⊎◌, ℕ, ◌<◌, true, false, ◌||◌, nat_lt, None, Some, List, [], ◌∷◌, refl, sym, ap, subst, ◌∙◌, inl, inr, arith}
use Rattle.std.proofs.lemmas.Bool.{false≢true, both_ways, cases_eq, cases_lt, ne_eqb, lt-ltb, ltb-true, or_cases, or_left, or_right}
use Rattle.card_sets.specs.Cards.{suit_of}
use Rattle.card_sets.specs.SetWords.{has_card, cards_where, IsCardSet, IsSubset, next_card}
use Rattle.card_sets.proofs.Sets.{has_card-cards_where, has_card-below, tail-after, find-holds, find-first, find-fails}
use Rattle.trick_rules.specs.Positions.{State, to_play, IsState}
use Rattle.trick_rules.specs.Play.{legal_in, take_out}
use Rattle.trick_rules.proofs.CardLists.{has_card-take_out}
use Rattle.trick_rules.proofs.Soundness.{held_low}
use Rattle.trick_rules.proofs.States.{legal_can_play}
use Rattle.double_dummy.specs.Equals.{in_play, AreEqual, IsNextEqual}
use Rattle.double_dummy.proofs.Mirror.{in_play-held}
use Rattle.equivalent_positions.specs.Enough.{AreEnough, HasHigherEqual}
use Rattle.dd_solver.specs.Closed.{up_from, IsClosedDown, AreSpokenFor}
use Rattle.dd_solver.proofs.Winner.{up_has, up_suit}

-- ---- the next equal of a card

-- a legal card is in play
pub legal_plays : (s : State) (legal playing : List ℕ) → IsState s → legal ≡ legal_in s → playing ≡ cards_where (in_play s.position) → IsSubset legal playing
legal_plays s legal playing ok e f c h =
    let is : has_card (legal_in s) c ≡ true = sym (ap (λ x. has_card x c) e) ∙ h in
    let can = legal_can_play s ok c is in
    ap (λ x. has_card x c) f ∙ has_card-cards_where (in_play s.position) c (held_low s.position ok.sound c (to_play s.position) can)
    ∙ in_play-held s.position (to_play s.position) c can

-- equal cards, as the next of one is found
pub equal_is_next : (s : State) (legal playing : List ℕ) (low high : ℕ) → IsState s → legal ≡ legal_in s → playing ≡ cards_where (in_play s.position) → AreEqual s low high
    → IsNextEqual legal playing low high
equal_is_next s legal playing low high ok e f eq =
    let fits = held_low s.position ok.sound high (to_play s.position) (legal_can_play s ok high eq.high_legal) in
    record {
      legal_too = ap (λ x. has_card x high) e ∙ eq.high_legal;
      suit = eq.suit;
      order = eq.order;
      between = λ c above below. ap (λ x. has_card x c) f ∙ has_card-cards_where (in_play s.position) c (omega (arith, below, fits)) ∙ eq.between c above below;
    }

module _ (legal playing : List ℕ) (card next : ℕ) (within : IsSubset legal playing) where
  -- where none comes after a card there is no next equal
  pub none_next : next_card playing card ≡ None → IsNextEqual legal playing card next → ⊥
  none_next none h = false≢true (sym (find-fails (nat_lt card) playing next none (within next h.legal_too)) ∙ lt-ltb card next h.order)

-- the next equal is the next card in play
pub next_only : (legal playing : List ℕ) (card found next : ℕ) → IsSubset legal playing → IsCardSet playing → next_card playing card ≡ Some found → IsNextEqual legal playing card next → found ≡ next
next_only legal playing card found next within set e h =
    let late = find-first (nat_lt card) playing found next set e (within next h.legal_too) (lt-ltb card next h.order) in
    let is = find-holds (nat_lt card) playing found e in
    elim (cases_lt found next) as (λ _. found ≡ next) [
      | inl less ↦ absurd (both_ways (has_card playing found) (h.between found (ltb-true card found is.1) less) is.0)
      | inr more ↦ omega arith
    ]

-- ---- one of equals

pub spoken-without : (s : State) (kept new : List ℕ) (card next : ℕ) → AreEqual s card next → new ≡ take_out card kept → AreSpokenFor s kept → AreSpokenFor s new
spoken-without s kept new card next eq e spoken d h =
    elim (cases_eq d card) as (λ _. (has_card new d ≡ true) ⊎ ((high : ℕ) × AreEqual s d high)) [
      | inl same ↦ inr (next, subst (λ x. AreEqual s x next) (sym same) eq)
      | inr other ↦ elim (spoken d h) as (λ _. (has_card new d ≡ true) ⊎ ((high : ℕ) × AreEqual s d high)) [
        | inl kept_too ↦ inl (ap (λ x. has_card x d) e ∙ has_card-take_out card kept d ∙ rw (kept_too, ne_eqb d card other) refl)
        | inr higher ↦ inr higher
      ]
    ]

pub enough : (counting : List ℕ) (s : State) (kept : List ℕ) → AreSpokenFor s kept → IsClosedDown s counting → AreEnough counting s kept
enough counting s kept spoken down card legal =
    elim (spoken card legal) as (λ _. (has_card kept card ≡ true) ⊎ HasHigherEqual counting s card) [
      | inl h ↦ inl h
      | inr higher ↦ inr (record { higher = higher.0; equal = higher.1; counts = down card higher.0 higher.1 })
    ]

-- ---- closed down, one card after another

-- what is so of each of these cards: where its next equal counts, it does
abbrev pub AreDown : List ℕ → List ℕ → List ℕ → List ℕ → Type 0
AreDown legal playing cards counting = (low high : ℕ) → has_card cards low ≡ true → IsNextEqual legal playing low high → has_card counting high ≡ true → has_card counting low ≡ true

down-none : (legal playing cards counting : List ℕ) → cards ≡ [] → AreDown legal playing cards counting
down-none legal playing cards counting e low high h _ _ = absurd (false≢true (sym (ap (λ x. has_card x low) e) ∙ h))

-- a card of a list is its first one or one of the others
first_or_rest : (card c : ℕ) (rest cards : List ℕ) → cards ≡ card ∷ rest → has_card cards c ≡ true → (card ≡ c) ⊎ (has_card rest c ≡ true)
first_or_rest card c rest cards e h = elim (cases_eq card c) as (λ _. (card ≡ c) ⊎ (has_card rest c ≡ true)) [
  | inl same ↦ inl same
  | inr other ↦ inr (rw (ne_eqb card c other) at (sym (ap (λ x. has_card x c) e) ∙ h))
]

module _ (legal playing : List ℕ) (card : ℕ) (rest cards there : List ℕ) (e : cards ≡ card ∷ rest) (set : IsCardSet cards) (down : AreDown legal playing rest there) where
  -- the card counts too
  pub down-with : (new : List ℕ) → IsCardSet new → ((c : ℕ) → c < 52 → has_card new c ≡ (has_card there c || has_card (up_from card) c)) → AreDown legal playing cards new
  down-with new new_set value low high h next counts =
      let low_fits : low < 52 = has_card-below cards low set h in
      elim (first_or_rest card low rest cards e h) as (λ _. has_card new low ≡ true) [
        | inl same ↦ value low low_fits ∙ or_right (has_card there low) (has_card (up_from card) low) (up_has card low low_fits (ap suit_of (sym same)) (omega (arith, same)))
        | inr later ↦ value low low_fits ∙ elim (or_cases (has_card there high) (has_card (up_from card) high) (sym (value high (has_card-below new high new_set counts)) ∙ counts)) as (λ _. (has_card there low || has_card (up_from card) low) ≡ true) [
          | inl before ↦ or_left (has_card there low) (has_card (up_from card) low) (down low high later next before)
          | inr above ↦ (let past = tail-after card rest (subst IsCardSet e set) low later in
              or_right (has_card there low) (has_card (up_from card) low) (up_has card low low_fits (next.suit ∙ up_suit card high above) (omega arith)))
        ]
      ]

  -- or its next equal doesn't count
  pub down-still : ((next : ℕ) → IsNextEqual legal playing card next → has_card there next ≡ false) → AreDown legal playing cards there
  down-still none low high h next counts = elim (first_or_rest card low rest cards e h) as (λ _. has_card there low ≡ true) [
    | inl same ↦ absurd (both_ways (has_card there high) (none high (subst (λ x. IsNextEqual legal playing x high) (sym same) next)) counts)
    | inr later ↦ down low high later next counts
  ]
