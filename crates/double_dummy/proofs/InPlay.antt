-- The cards in play, and equal ones among them.
use Rattle.std.proofs.Common.{◌≡◌, ℕ, ◌+◌, ◌<◌, ◌≤◌, true, ◌||◌, eqb, List, [], length, take, get_or, refl, sym, ap, ◌∙◌, inl, inr, arith}
use Rattle.std.proofs.lemmas.Bool.{eq-eqb, ne_eqb, cases_eq}
use Rattle.std.proofs.lemmas.List.{take_more, take_all}
use Rattle.std.proofs.lemmas.Grind.{get_or_default_zero}
use Rattle.card_sets.specs.SetWords.{has_card, cards_where}
use Rattle.card_sets.proofs.Sets.{IsCardSet-nil, has_card-cards_where, cards_where-agree, has_card-push}
use Rattle.trick_rules.specs.Positions.{PositionValue, State, to_play, IsState}
use Rattle.trick_rules.specs.Play.{legal_in}
use Rattle.trick_rules.proofs.Soundness.{held_low}
use Rattle.trick_rules.proofs.States.{legal_can_play}
use Rattle.double_dummy.specs.Equals.{in_play, AreEqual, IsNextEqual}

-- ---- the cards in play, one card of the trick after another

-- the first few of a list
abbrev pub first_of : ℕ → List ℕ → List ℕ
first_of n xs = cards_where (has_card (take n xs))

pub first-none : (xs cards : List ℕ) → cards ≡ [] → cards ≡ first_of 0 xs
first-none xs cards e = e ∙ IsCardSet-nil

eqb-turn : (a b : ℕ) → eqb a b ≡ eqb b a
eqb-turn a b =
    elim (cases_eq a b) as (λ _. eqb a b ≡ eqb b a) [
      | inl e ↦ eq-eqb a b e ∙ sym (eq-eqb b a (sym e))
      | inr e ↦ ne_eqb a b e ∙ sym (ne_eqb b a (λ f. e (sym f)))
    ]

pub first-more : (xs cards : List ℕ) (n card : ℕ) → n < length xs → card ≡ get_or xs n card → cards ≡ first_of n xs → cards_where (λ c. has_card cards c || eqb c card) ≡ first_of (n + 1) xs
first-more xs cards n card within is e =
    cards_where-agree (λ c. has_card cards c || eqb c card) (has_card (take (n + 1) xs)) (λ c low.
    let now : has_card cards c ≡ has_card (take n xs) c = ap (λ x. has_card x c) e ∙ has_card-cards_where (has_card (take n xs)) c low in
    let here : get_or xs n 0 ≡ card = sym (get_or_default_zero xs n card within) ∙ sym is in
    let more : has_card (take (n + 1) xs) c ≡ (has_card (take n xs) c || eqb c card) =
    ap (λ x. has_card x c) (take_more xs n 0 within) ∙ has_card-push (take n xs) (get_or xs n 0) c ∙ ap (λ x. has_card (take n xs) c || x) (eqb-turn (get_or xs n 0) c ∙ ap (eqb c) here) in
    rw (now, more) refl)

pub first-all : (xs cards : List ℕ) (n : ℕ) → length xs ≤ n → cards ≡ first_of n xs → cards ≡ cards_where (has_card xs)
first-all xs cards n long e = e ∙ ap (λ ys. cards_where (has_card ys)) (take_all n xs long)

pub all_in_play : (t : PositionValue) (ours held played all : List ℕ) → ours ≡ cards_where (λ c. has_card t.declarer c || has_card t.dummy c) → held ≡ cards_where (λ c. has_card ours c || has_card t.unseen c)
    → played ≡ cards_where (has_card t.trick.cards) → all ≡ cards_where (λ c. has_card held c || has_card played c) → all ≡ cards_where (in_play t)
all_in_play t ours held played all a b d e =
    e ∙ cards_where-agree (λ c. has_card held c || has_card played c) (in_play t) (λ c low.
    let in_ours : has_card ours c ≡ (has_card t.declarer c || has_card t.dummy c) = ap (λ x. has_card x c) a ∙ has_card-cards_where (λ d. has_card t.declarer d || has_card t.dummy d) c low in
    let in_held : has_card held c ≡ (has_card ours c || has_card t.unseen c) = ap (λ x. has_card x c) b ∙ has_card-cards_where (λ d. has_card ours d || has_card t.unseen d) c low in
    let in_played : has_card played c ≡ has_card t.trick.cards c = ap (λ x. has_card x c) d ∙ has_card-cards_where (has_card t.trick.cards) c low in
    rw (in_held, in_ours, in_played) refl)

-- ---- equal cards

pub next_is_equal : (s : State) (legal playing : List ℕ) (card next : ℕ) → IsState s → legal ≡ legal_in s → playing ≡ cards_where (in_play s.position) → has_card (legal_in s) card ≡ true
    → IsNextEqual legal playing card next → AreEqual s card next
next_is_equal s legal playing card next ok e p legal_card h =
    let legal_next : has_card (legal_in s) next ≡ true = sym (ap (λ x. has_card x next) e) ∙ h.legal_too in
    let low = held_low s.position ok.sound next (to_play s.position) (legal_can_play s ok next legal_next) in
    record {
      low_legal = legal_card;
      high_legal = legal_next;
      suit = h.suit;
      order = h.order;
      between = λ other above below. sym (ap (λ x. has_card x other) p ∙ has_card-cards_where (in_play s.position) other (omega arith)) ∙ h.between other above below;
    }
