-- The next card in play after a choice.
use Rattle.std.proofs.Common.{◌≡◌, ℕ, ◌<◌, true, Some, None, List, nat_lt, sym, ap, ◌∙◌, inl, inr, arith}
use Rattle.std.proofs.lemmas.Bool.{false≢true, cases_lt, lt-ltb, ltb-true, false_from_ne_true}
use Rattle.card_sets.specs.Cards.{suit_of}
use Rattle.card_sets.specs.SetWords.{has_card, cards_where, next_card}
use Rattle.card_sets.proofs.Sets.{IsCardSet-cards_where, has_card-cards_where, find-holds, find-fails, find-first}
use Rattle.trick_rules.specs.Positions.{to_play}
use Rattle.trick_rules.specs.Nodes.{NodeValue, IsNode, choices, child_mask}
use Rattle.trick_rules.proofs.Soundness.{held_low}
use Rattle.trick_rules.proofs.PlayLaws.{a_choice_can_be_played}
use Rattle.double_dummy.specs.Equals.{in_play}
use Rattle.double_dummy.proofs.Mirror.{in_play-held}
use Rattle.equal_cards.specs.Equals.{AreEqualAt}

module _ (n : NodeValue) (ok : IsNode n) where
  choice-below : (card : ℕ) → has_card (choices n) card ≡ true → card < 52
  choice-below card h = held_low n.position ok.sound card (to_play n.position) (a_choice_can_be_played n card ok h)

  -- a choice is in play
  choice-in_play : (card : ℕ) → has_card (choices n) card ≡ true → in_play n.position card ≡ true
  choice-in_play card h = in_play-held n.position (to_play n.position) card (a_choice_can_be_played n card ok h)

  module _ (playing : List ℕ) (all : playing ≡ cards_where (in_play n.position)) where
    playing-below : (card : ℕ) → card < 52 → has_card playing card ≡ in_play n.position card
    playing-below card low = ap (λ x. has_card x card) all ∙ has_card-cards_where (in_play n.position) card low

    playing-choice : (card : ℕ) → has_card (choices n) card ≡ true → has_card playing card ≡ true
    playing-choice card h = playing-below card (choice-below card h) ∙ choice-in_play card h

    -- no card in play comes after it
    pub none_after : (card high : ℕ) → next_card playing card ≡ None → AreEqualAt n card high → ⊥
    none_after card high none eq = false≢true (sym (find-fails (nat_lt card) playing high none (playing-choice high eq.high_choice)) ∙ lt-ltb card high eq.order)

    -- an equal card is the one that comes next
    pub next-only : (card next high : ℕ) → next_card playing card ≡ Some next → AreEqualAt n card high → next ≡ high
    next-only card next high found eq =
        let set = rw (← all) at (IsCardSet-cards_where (in_play n.position)) in
        let holds = find-holds (nat_lt card) playing next found in
        let early = find-first (nat_lt card) playing next high set found (playing-choice high eq.high_choice) (lt-ltb card high eq.order) in
        elim (cases_lt next high) as (λ _. next ≡ high) [
          | inl less ↦ absurd (false≢true (sym (eq.between next (ltb-true card next holds.1) less) ∙ sym (playing-below next (omega (arith, choice-below high eq.high_choice))) ∙ holds.0))
          | inr more ↦ omega arith
        ]

    -- the one that comes next is equal where it is a choice of the suit that is legal in the same layouts
    pub next-equal : (card next : ℕ) → next_card playing card ≡ Some next → has_card (choices n) card ≡ true → has_card (choices n) next ≡ true
        → suit_of card ≡ suit_of next → child_mask n card ≡ child_mask n next → AreEqualAt n card next
    next-equal card next found here there suit same =
        let set = rw (← all) at (IsCardSet-cards_where (in_play n.position)) in
        let holds = find-holds (nat_lt card) playing next found in
        record {
          low_choice = here;
          high_choice = there;
          same_layouts = same;
          suit = suit;
          order = ltb-true card next holds.1;
          between = λ other above below. false_from_ne_true (in_play n.position other) (λ h.
              let in_set : has_card playing other ≡ true = playing-below other (omega (arith, choice-below next there)) ∙ h in
              let late = find-first (nat_lt card) playing next other set found in_set (lt-ltb card other above) in
              absurd (omega arith));
        }
