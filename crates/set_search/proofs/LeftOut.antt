-- Neighbours in play, and the cards that are left out for one.
use Rattle.std.proofs.Common.{◌≡◌, ◌≢◌, ◌∙◌, ◌<◌, ◌≤◌, ◌&&◌, eqb, not, Bool, ℕ, zero, suc, true, false, Some, nat_lt, List, [], ◌∷◌, get_or, Contains, refl, sym, ap, subst, inl, inr, ⊎_elim, arith}
use Rattle.std.proofs.lemmas.Bool.{false≢true, lt-ltb, ltb-true, false_from_ne_true, cases_eq, cases_Bool, ne_eqb}
use Rattle.std.specs.List.{items_where_true}
use Rattle.card_sets.specs.Cards.{suit_of}
use Rattle.card_sets.specs.SetWords.{has_card, cards_where, next_card}
use Rattle.card_sets.proofs.Sets.{IsCardSet-cards_where, has_card-cards_where, find-holds, find-first}
use Rattle.win_vectors.specs.Vectors.{ones_of, meet_of}
use Rattle.win_vectors.specs.Fronts.{Vector}
use Rattle.trick_rules.specs.Positions.{PositionValue, to_play}
use Rattle.trick_rules.specs.Play.{take_out, is_declarers}
use Rattle.trick_rules.specs.Nodes.{NodeValue, is_legal, choices, child}
use Rattle.trick_rules.proofs.CardLists.{has_card-take_out, take_out-low}
use Rattle.double_dummy.specs.Equals.{in_play}
use Rattle.strategy_games.proofs.Lists.{Contains-of_map}
use Rattle.strategy_tree.proofs.CardLists.{has_card-from_Contains, Contains-from_has_card}
use Rattle.alphamu_core.specs.Kept.{IsTaken}
use Rattle.set_nodes.specs.SetNodes.{still_held, node_at, AreLayoutsAt, legal_at}
use Rattle.set_nodes.specs.Neighbours.{AreNeighbours, TellsNoMore}
use Rattle.set_nodes.proofs.Neighbours.{neighbour_is_enough}
use Rattle.set_nodes.proofs.Legal.{legal_there}
use Rattle.set_nodes.proofs.Places.{HasOne, one_at, one_within, some_ones, some_place, meet_ones, ones_meet, picked_from}
use Rattle.set_nodes.proofs.Won.{IsWon}
use Rattle.set_search.specs.Open.{own_legal}
use Rattle.set_search.specs.LeftOut.{IsNoBetter, AreEnough, IsAnsweredBy}
use Rattle.set_search.proofs.OurCards.{own_in, choice_from_own, before, comes}
use Rattle.set_search.proofs.Replies.{AreWonSoFar, kept_choice}

-- the next card in play is a neighbour, if it is of the suit
pub next_in_suit : (t : PositionValue) (playing : List ℕ) → playing ≡ cards_where (in_play t) → (card next : ℕ) → next < 52 → next_card playing card ≡ Some next → suit_of card ≡ suit_of next → AreNeighbours t card next
next_in_suit t playing all card next low found suit =
    let set = rw (← all) at (IsCardSet-cards_where (in_play t)) in
    let holds = find-holds (nat_lt card) playing next found in
    record {
      suit = suit;
      order = ltb-true card next holds.1;
      between = λ other above below. false_from_ne_true (in_play t other) (λ h.
          let in_set : has_card playing other ≡ true = ap (λ x. has_card x other) all ∙ has_card-cards_where (in_play t) other (omega (arith, below, low)) ∙ h in
          let late = find-first (nat_lt card) playing next other set found in_set (lt-ltb card other above) in
          absurd (omega (arith, late, below)));
    }

-- ---- declarer's cards

-- while declarer's legal cards are gone through: what isn't kept has a neighbour below that is legal
pub record AreKept (t : PositionValue) (rest kept : List ℕ) : Type 0 where
  pub to_come : (card : ℕ) → has_card rest card ≡ true → has_card (own_legal t) card ≡ true
  pub some : (card : ℕ) → has_card kept card ≡ true → has_card (own_legal t) card ≡ true
  pub left_out : (card : ℕ) → has_card (own_legal t) card ≡ true → has_card kept card ≡ false → (low : ℕ) × (has_card (own_legal t) low ≡ true) × AreNeighbours t low card

pub kept_all : (t : PositionValue) (legal : List ℕ) → legal ≡ own_legal t → AreKept t legal legal
kept_all t legal is =
    let own : (card : ℕ) → has_card legal card ≡ true → has_card (own_legal t) card ≡ true = λ card h. sym (ap (λ x. has_card x card) is) ∙ h in
    record {
      to_come = own;
      some = own;
      left_out = λ card h out. absurd (false≢true (sym out ∙ ap (λ x. has_card x card) is ∙ h));
    }

pub kept_more : (t : PositionValue) (rest later kept : List ℕ) (card : ℕ) → rest ≡ card ∷ later → AreKept t rest kept → AreKept t later kept
kept_more t rest later kept card first are = record {
  to_come = λ c h. are.to_come c (before rest later card first c h);
  some = are.some;
  left_out = are.left_out;
}

pub kept_without : (t : PositionValue) (rest later kept new : List ℕ) (card high : ℕ) → rest ≡ card ∷ later → new ≡ take_out high kept → AreNeighbours t card high → AreKept t rest kept → AreKept t later new
kept_without t rest later kept new card high first is near are = record {
  to_come = λ c h. are.to_come c (before rest later card first c h);
  some = λ c h. are.some c (take_out-low high kept c (sym (ap (λ x. has_card x c) is) ∙ h));
  left_out = λ c own out.
      elim (cases_eq c high) as (λ _. (low : ℕ) × (has_card (own_legal t) low ≡ true) × AreNeighbours t low c) [
        | inl same ↦ (card, are.to_come card (comes rest later card first), subst (λ x. AreNeighbours t card x) (sym same) near)
        | inr other ↦ are.left_out c own (still_out c other (sym (has_card-take_out high kept c) ∙ sym (ap (λ x. has_card x c) is) ∙ out))
      ];
}
  where
    and_true : (b : Bool) → (b && true) ≡ b
    and_true true = refl
    and_true false = refl

    still_out : (c : ℕ) → c ≢ high → (has_card kept c && not (eqb c high)) ≡ false → has_card kept c ≡ false
    still_out c other out = sym (and_true (has_card kept c)) ∙ rw (ne_eqb c high other) at out

module _ (t : PositionValue) (ours : is_declarers (to_play t) ≡ true) where
  -- of two neighbours that are legal the higher one is no better
  lower_is_enough : (low high : ℕ) → has_card (own_legal t) low ≡ true → has_card (own_legal t) high ≡ true → AreNeighbours t low high → IsNoBetter t high low
  lower_is_enough low high own_low own_high near = λ lefts moves ok w.
      let n : NodeValue = record { position = t; lefts = lefts } in
      neighbour_is_enough n low high moves ok (choice_from_own n low ok ours own_low)
      (record { near = inl near; wherever = λ left among legal. own_in t left high ours ∙ own_high }) w

  pub enough : (kept : List ℕ) → AreKept t [] kept → AreEnough t kept
  enough kept are = record { legal = are.some; each = λ card own. below (suc card) card (omega arith) own }
    where
      below : (k card : ℕ) → card < k → has_card (own_legal t) card ≡ true → (low : ℕ) × (has_card kept low ≡ true) × IsNoBetter t card low
      below zero card less own = absurd (omega (arith, less))
      below (suc k) card less own =
          elim (cases_Bool (has_card kept card)) as (λ _. (low : ℕ) × (has_card kept low ≡ true) × IsNoBetter t card low) [
            | inl here ↦ (card, here, λ lefts moves ok w. w)
            | inr out ↦
                (let next = are.left_out card own out in
                let found = below k next.0 (omega (arith, less, next.2.order)) next.1 in
                (found.0, found.1, λ lefts moves ok w. found.2 lefts moves ok (lower_is_enough next.0 card next.1 own next.2 lefts moves ok w)))
          ]

-- ---- a defender's cards

-- a card is won if an answered neighbour is
pub won_by_neighbour : (layouts : List (List ℕ)) (t : PositionValue) (m : ℕ) (chosen : Vector) (are : AreLayoutsAt layouts t chosen) (rest later : List ℕ) (card other : ℕ) (legal : List Vector)
    → ((c : ℕ) → c < 52 → get_or legal c [] ≡ meet_of chosen (legal_at layouts t c)) → card < 52 → 1 ≤ ones_of (get_or legal card []) → IsTaken rest card later → IsAnsweredBy t legal later card other
    → AreWonSoFar layouts t m chosen rest → has_card (choices (node_at layouts t chosen)) card ≡ true → IsWon (child (node_at layouts t chosen) card) m
won_by_neighbour layouts t m chosen are rest later card other legal each low some taken by so choice =
    let n = node_at layouts t chosen in
    let kept = get_or legal card [] in
    let is = each card low in
    let there : (k : ℕ) → HasOne chosen k → HasOne (legal_at layouts t card) k → HasOne (legal_at layouts t other) k
    = λ k h l. (meet_ones chosen (legal_at layouts t other) k (subst (λ (v : Vector). HasOne v k) (each other by.answered.a_card)
    (one_at (get_or legal other []) kept k by.answered.wherever (subst (λ (v : Vector). HasOne v k) (sym is) (ones_meet chosen (legal_at layouts t card) k h l))))).1 in
    let tells : TellsNoMore n other card = record {
      near = by.near;
      wherever = λ left among legal_here.
          let from = Contains-of_map (still_held t) (items_where_true chosen layouts) left among in
          let place = picked_from chosen layouts from.0 from.1 in
          let below = one_within chosen place.0 place.1 in
          let same : still_held t (get_or layouts place.0 []) ≡ left = ap (still_held t) (place.2 []) ∙ from.2 in
          let at : (c : ℕ) → (get_or (legal_at layouts t c) place.0 false ≡ is_legal t c left) = λ c. legal_there layouts t c place.0 [] (omega (arith, below, are.width)) ∙ ap (λ (x : List ℕ). is_legal t c x) same in
          sym (at other) ∙ there place.0 place.1 (at card ∙ legal_here);
    } in
    let differ : other ≡ card → ⊥ = λ e. ⊎_elim (λ (near : AreNeighbours t card other). omega (arith, near.order, e)) (λ (near : AreNeighbours t other card). omega (arith, near.order, e)) by.near in
    let first = some_place kept some in
    let both = meet_ones chosen (legal_at layouts t card) first.0 (subst (λ (v : Vector). HasOne v first.0) is first.1) in
    let other_choice = kept_choice layouts t chosen are other (meet_of chosen (legal_at layouts t other)) refl
    (some_ones (meet_of chosen (legal_at layouts t other)) first.0 (ones_meet chosen (legal_at layouts t other) first.0 both.0 (there first.0 both.0 both.1))) in
    ⊎_elim
    (λ (yet : has_card rest other ≡ true). ⊎_elim
    (λ (e : other ≡ card). absurd (differ e))
    (λ (after : Contains later other). absurd (false≢true (sym by.answered.done ∙ has_card-from_Contains later other after)))
    (taken.others other (Contains-from_has_card rest other yet)))
    (λ (w : IsWon (child n other) m). neighbour_is_enough n card other m are.node choice tells w)
    (so.each other other_choice)
