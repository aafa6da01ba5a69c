-- Cards just below others, and equal cards among them.
use Rattle.std.proofs.Common.{◌≡◌, ◌⊎◌, ℕ, ◌+◌, ◌<◌, true, false, not, ◌&&◌, ◌||◌, Bool, List, [], filter, length, refl, sym, ap, ◌∙◌, inl, inr, arith}
use Rattle.std.proofs.lemmas.Bool.{false≢true, and_parts, or_cases, or_left, cases_Bool, cases_eq}
use Rattle.std.proofs.lemmas.List.Filters.{length-filter_both}
use Rattle.card_sets.specs.Cards.{suit_of, same_suit}
use Rattle.card_sets.specs.SetWords.{has_card, cards_where, IsSubset}
use Rattle.card_sets.proofs.Sets.{has_card-cards_where, has_card-below, has_card-filter, IsCardSet-cards_where}
use Rattle.card_sets.proofs.SetCounts.{has_card-length, some_card, nil_from_length}
use Rattle.card_sets.proofs.Suits.{same_suit-true, same_suit-refl}
use Rattle.trick_rules.specs.Positions.{State, IsState}
use Rattle.trick_rules.specs.Play.{legal_in}
use Rattle.double_dummy.specs.Equals.{in_play, AreEqual}
use Rattle.equivalent_positions.specs.Alike.{IsClosedUp}
use Rattle.dd_solver.specs.Closed.{IsClosedDown, AreSpokenFor}
use Rattle.dd_solver.proofs.CarriedBack.{between_suit}
use Rattle.dd_solver.proofs.EqualsDown.{legal_plays}

-- the cards just below others, in their suits
abbrev pub one_below : List ℕ → List ℕ
one_below cards = cards_where (λ c. has_card cards (c + 1) && same_suit (suit_of c) (suit_of (c + 1)))

pub below-parts : (cards : List ℕ) (c : ℕ) → has_card (one_below cards) c ≡ true → (has_card cards (c + 1) ≡ true) × (suit_of c ≡ suit_of (c + 1))
below-parts cards c h =
    let test = λ (d : ℕ). has_card cards (d + 1) && same_suit (suit_of d) (suit_of (d + 1)) in
    let low = has_card-below (one_below cards) c (IsCardSet-cards_where test) h in
    let parts = and_parts (has_card cards (c + 1)) (same_suit (suit_of c) (suit_of (c + 1))) (sym (has_card-cards_where test c low) ∙ h) in
    (parts.0, same_suit-true (suit_of c) (suit_of (c + 1)) parts.1)

pub below-has : (cards : List ℕ) (c : ℕ) → c + 1 < 52 → has_card cards (c + 1) ≡ true → suit_of c ≡ suit_of (c + 1) → has_card (one_below cards) c ≡ true
below-has cards c low h suit =
    has_card-cards_where (λ d. has_card cards (d + 1) && same_suit (suit_of d) (suit_of (d + 1))) c (omega (arith, low))
    ∙ rw h (ap (λ s. same_suit s (suit_of (c + 1))) suit ∙ same_suit-refl (suit_of (c + 1)))

-- the cards in two sets
pub in_both : (xs ys both : List ℕ) (c : ℕ) → both ≡ filter (has_card ys) xs → has_card xs c ≡ true → has_card ys c ≡ true → has_card both c ≡ true
in_both xs ys both c e h k = ap (λ x. has_card x c) e ∙ has_card-filter (has_card ys) xs c ∙ rw (h, k) refl

pub both-parts : (xs ys both : List ℕ) (c : ℕ) → both ≡ filter (has_card ys) xs → has_card both c ≡ true → (has_card xs c ≡ true) × (has_card ys c ≡ true)
both-parts xs ys both c e h = and_parts (has_card xs c) (has_card ys c) (sym (has_card-filter (has_card ys) xs c) ∙ sym (ap (λ x. has_card x c) e) ∙ h)

-- above a card that isn't below an empty place lies one in play
pub not-empty : (pack playing gaps cards both : List ℕ) → pack ≡ cards_where (λ _. true) → gaps ≡ filter (λ c. not (has_card playing c)) pack → both ≡ filter (has_card (one_below gaps)) cards
    → (c : ℕ) → has_card cards c ≡ true → has_card both c ≡ false → c + 1 < 52 → suit_of c ≡ suit_of (c + 1) → has_card playing (c + 1) ≡ true
not-empty pack playing gaps cards both e f g c h out low suit =
    elim (cases_Bool (has_card playing (c + 1))) as (λ _. has_card playing (c + 1) ≡ true) [
      | inl in_it ↦ in_it
      | inr free ↦
          (let whole : has_card pack (c + 1) ≡ true = ap (λ x. has_card x (c + 1)) e ∙ has_card-cards_where (λ _. true) (c + 1) low in
          let gap : has_card gaps (c + 1) ≡ true = ap (λ x. has_card x (c + 1)) f ∙ has_card-filter (λ d. not (has_card playing d)) pack (c + 1) ∙ rw (whole, free) refl in
          absurd (false≢true (sym out ∙ in_both cards (one_below gaps) both c g h (below-has gaps c low gap suit))))
    ]

-- ---- one of equals

-- the legal cards that have no legal card just above them speak for the others
pub spoken-tops : (s : State) (legal kept : List ℕ) → legal ≡ legal_in s → kept ≡ filter (λ c. not (has_card (one_below legal) c)) legal → AreSpokenFor s kept
spoken-tops s legal kept e f low h =
    let here : has_card legal low ≡ true = ap (λ x. has_card x low) e ∙ h in
    elim (cases_Bool (has_card (one_below legal) low)) as (λ _. (has_card kept low ≡ true) ⊎ ((high : ℕ) × AreEqual s low high)) [
      | inl below ↦ (let parts = below-parts legal low below in
          inr (
            low + 1,
            record {
              low_legal = h;
              high_legal = sym (ap (λ x. has_card x (low + 1)) e) ∙ parts.0;
              suit = parts.1;
              order = omega arith;
              between = λ c over under. absurd (omega arith);
            },
          ))
      | inr top ↦ inl (ap (λ x. has_card x low) f ∙ has_card-filter (λ c. not (has_card (one_below legal) c)) legal low ∙ rw (here, top) refl)
    ]

-- ---- lower equals

module _ (s : State) (ok : IsState s) (legal playing : List ℕ) (e : legal ≡ legal_in s) (p : playing ≡ cards_where (in_play s.position)) where
  pub legal-low : (c : ℕ) → has_card legal c ≡ true → c < 52
  legal-low c h = has_card-below (cards_where (in_play s.position)) c (IsCardSet-cards_where (in_play s.position)) (sym (ap (λ x. has_card x c) p) ∙ legal_plays s legal playing ok e p c h)

  -- if no place above a legal card is empty, its next equal lies just above it
  next-above : ((c : ℕ) → has_card legal c ≡ true → c + 1 < 52 → suit_of c ≡ suit_of (c + 1) → has_card playing (c + 1) ≡ true) → (low high : ℕ) → AreEqual s low high → high ≡ low + 1
  next-above full low high eq =
      let low_legal : has_card legal low ≡ true = ap (λ x. has_card x low) e ∙ eq.low_legal in
      let fits : high < 52 = legal-low high (ap (λ x. has_card x high) e ∙ eq.high_legal) in
      elim (cases_eq high (low + 1)) as (λ _. high ≡ low + 1) [
        | inl same ↦ same
        | inr other ↦
            (let less : low + 1 < high = omega (arith, eq.order, other) in
            let suit = between_suit low (low + 1) high (omega arith) (omega (arith, less)) fits eq.suit in
            let held = full low low_legal (omega (arith, less, fits)) (sym suit) in
            let gone = sym (has_card-cards_where (in_play s.position) (low + 1) (omega (arith, less, fits))) ∙ sym (ap (λ x. has_card x (low + 1)) p) ∙ held in
            absurd (false≢true (sym (eq.between (low + 1) (omega arith) less) ∙ gone)))
      ]

  -- no legal card is left just below one that counts
  pub down-end : (closed rest lower : List ℕ) → ((c : ℕ) → has_card legal c ≡ true → c + 1 < 52 → suit_of c ≡ suit_of (c + 1) → has_card playing (c + 1) ≡ true)
      → ((c : ℕ) → has_card legal c ≡ true → has_card closed c ≡ false → has_card rest c ≡ true)
      → ((c : ℕ) → has_card rest c ≡ true → has_card legal (c + 1) ≡ true → has_card closed (c + 1) ≡ true → suit_of c ≡ suit_of (c + 1) → has_card lower c ≡ true)
      → lower ≡ [] → IsClosedDown s closed
  down-end closed rest lower full others all none low high eq counts =
      elim (cases_Bool (has_card closed low)) as (λ _. has_card closed low ≡ true) [
        | inl in_it ↦ in_it
        | inr out ↦
            (let next = next-above full low high eq in
            let low_legal : has_card legal low ≡ true = ap (λ x. has_card x low) e ∙ eq.low_legal in
            let high_legal : has_card legal (low + 1) ≡ true = ap (has_card legal) (sym next) ∙ ap (λ x. has_card x high) e ∙ eq.high_legal in
            let found = all low (others low low_legal out) high_legal (ap (has_card closed) (sym next) ∙ counts) (eq.suit ∙ ap suit_of next) in
            absurd (false≢true (sym (ap (λ x. has_card x low) none) ∙ found)))
      ]

  -- what is left after the next lower equals
  pub others-more : (closed rest lower new less : List ℕ) → new ≡ cards_where (λ c. has_card closed c || has_card lower c) → less ≡ filter (λ c. not (has_card lower c)) rest
      → ((c : ℕ) → has_card legal c ≡ true → has_card closed c ≡ false → has_card rest c ≡ true)
      → (c : ℕ) → has_card legal c ≡ true → has_card new c ≡ false → has_card less c ≡ true
  others-more closed rest lower new less f g others c h out =
      let parts = or_parts (has_card closed c) (has_card lower c) (sym (ap (λ x. has_card x c) f ∙ has_card-cards_where (λ d. has_card closed d || has_card lower d) c (legal-low c h)) ∙ out) in
      ap (λ x. has_card x c) g ∙ has_card-filter (λ d. not (has_card lower d)) rest c ∙ rw (others c h parts.0, parts.1) refl
    where
      or_parts : (a b : Bool) → (a || b) ≡ false → (a ≡ false) × (b ≡ false)
      or_parts true b k = absurd (false≢true (sym k))
      or_parts false b k = (refl, k)

-- with cards just below ones that count, what counts stays closed up
pub closed-more : (closed lower new : List ℕ) → IsClosedUp closed → ((c : ℕ) → has_card lower c ≡ true → (has_card closed (c + 1) ≡ true) × (suit_of c ≡ suit_of (c + 1)))
    → new ≡ cards_where (λ c. has_card closed c || has_card lower c) → IsClosedUp new
closed-more closed lower new up counts e card higher h suit less fits =
    let value = λ (c : ℕ) (low : c < 52). ap (λ (x : List ℕ). has_card x c) e ∙ has_card-cards_where (λ d. has_card closed d || has_card lower d) c low in
    value higher fits ∙ or_left (has_card closed higher) (has_card lower higher)
    (elim (or_cases (has_card closed card) (has_card lower card) (sym (value card (omega (arith, less, fits))) ∙ h)) as (λ _. has_card closed higher ≡ true) [
      | inl in_it ↦ up card higher in_it suit less fits
      | inr below ↦ (let parts = counts card below in
          elim (cases_eq higher (card + 1)) as (λ _. has_card closed higher ≡ true) [
            | inl same ↦ ap (has_card closed) same ∙ parts.0
            | inr other ↦ up (card + 1) higher parts.0 (sym parts.1 ∙ suit) (omega (arith, less, other)) fits
          ])
    ])

-- some cards that are taken out leave fewer
pub fewer-left : (rest lower less : List ℕ) → IsSubset lower rest → (lower ≡ [] → ⊥) → less ≡ filter (λ c. not (has_card lower c)) rest → length less < length rest
fewer-left rest lower less within some e =
    let all = length-filter_both (has_card lower) (λ c. not (has_card lower c)) (λ c. refl) rest in
    let one : (c : ℕ) × (has_card lower c ≡ true) = some_card lower (has_some (length lower) refl) in
    let gone : 0 < length (filter (has_card lower) rest) = has_card-length (filter (has_card lower) rest) one.0 (has_card-filter (has_card lower) rest one.0 ∙ rw (within one.0 one.1, one.1) refl) in
    omega (arith, all, gone, ap (length {A = ℕ}) e)
  where
    has_some : (n : ℕ) → length lower ≡ n → 0 < length lower
    has_some n h = elim (cases_eq (length lower) 0) as (λ _. 0 < length lower) [
      | inl none ↦ absurd (some (nil_from_length lower none))
      | inr more ↦ omega (arith, more)
    ]
