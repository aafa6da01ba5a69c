-- At a defender's turn: the cards that he may play, one after the other.
use Rattle.std.proofs.Common.{◌≡◌, ◌∙◌, ◌≤◌, ◌⊎◌, ℕ, suc, true, false, is_some, List, [], length, get_or, Contains, refl, sym, ap, subst, inl, inr, ⊎_elim, true≢false, arith}
use Rattle.std.proofs.lemmas.Bool.{false≢true}
use Rattle.std.specs.List.{items_where_true}
use Rattle.card_sets.specs.declared.seat.Seat.{Seat}
use Rattle.card_sets.specs.declared.seat.Seat.TheVariants.{Declarer, Left, Dummy, Right}
use Rattle.card_sets.specs.SetWords.{has_card}
use Rattle.win_vectors.specs.Vectors.{ones_of, meet_of}
use Rattle.win_vectors.specs.Fronts.{Vector, Dominates}
use Rattle.trick_rules.specs.Positions.{PositionValue, to_play}
use Rattle.trick_rules.specs.Play.{makes, after_card, decided, is_declarers, held_by, CanPlay}
use Rattle.trick_rules.specs.Nodes.{NodeValue, IsNode, states, choices, child}
use Rattle.trick_rules.proofs.PlayLaws.{what_is_legal_is_a_choice, a_choice_can_be_played, a_choice_leads_to_a_node}
use Rattle.strategy_games.proofs.Lists.{Contains-map}
use Rattle.strategy_tree.proofs.CardLists.{has_card-from_Contains, Contains-from_has_card}
use Rattle.strategy_games.proofs.Vectors.{Dominates-trans}
use Rattle.set_nodes.specs.SetNodes.{still_held, node_at, AreLayoutsAt, legal_at}
use Rattle.set_nodes.proofs.Parts.{state_among}
use Rattle.set_nodes.proofs.Numbers.{keeps_numbers, layouts_in_part, some_layouts, width_below}
use Rattle.set_nodes.proofs.Legal.{length-legal_at, legal_there}
use Rattle.set_nodes.proofs.Won.{IsWon, won_by_replies, lost_by_reply}
use Rattle.set_nodes.proofs.Places.{HasOne, dominates_ones, one_at, one_within, some_place, meet_ones, meet_within, length-meet, picked_at}
use Rattle.alphamu_core.specs.Kept.{IsTaken}
use Rattle.alphamu_core.specs.declared.known.Known.TheVariants as Known
use Rattle.alphamu_core.proofs.Inherited.{known_theirs}
use Rattle.strategy_games.proofs.Lists.{All-at, All-from}
use Rattle.set_memo.specs.Known.{IsLostAt}
use Rattle.set_search.specs.Judged.{AreAllMade}

held_theirs : (t : PositionValue) (seat : Seat) → is_declarers seat ≡ false → held_by t seat ≡ t.unseen
held_theirs t Declarer theirs = absurd (true≢false theirs)
held_theirs t Dummy theirs = absurd (true≢false theirs)
held_theirs t Left theirs = refl
held_theirs t Right theirs = refl

module _ (layouts : List (List ℕ)) (t : PositionValue) (chosen : Vector) (are : AreLayoutsAt layouts t chosen) (card : ℕ) (kept : Vector) (is : kept ≡ meet_of chosen (legal_at layouts t card)) where
  same_width : length chosen ≡ length (legal_at layouts t card)
  same_width = are.width ∙ sym (length-legal_at layouts t card)

  pub kept_width : length kept ≡ length layouts
  kept_width = ap (λ (v : Vector). length v) is ∙ length-meet chosen (legal_at layouts t card) same_width ∙ are.width

  pub child_theirs : child (node_at layouts t chosen) card ≡ node_at layouts (after_card t card) kept
  child_theirs = keeps_numbers layouts t chosen card are.width ∙ ap (λ (v : Vector). node_at layouts (after_card t card) v) (sym is)

  -- a card that is legal in some layout is one of the choices, and a choice is legal in some layout
  pub kept_choice : 1 ≤ ones_of kept → has_card (choices (node_at layouts t chosen)) card ≡ true
  kept_choice some =
      let place = some_place kept some in
      let both = meet_ones chosen (legal_at layouts t card) place.0 (subst (λ (v : Vector). HasOne v place.0) is place.1) in
      let low = one_within chosen place.0 both.0 in
      let left = still_held t (get_or layouts place.0 []) in
      let among : Contains (node_at layouts t chosen).lefts left = Contains-map (still_held t) (items_where_true chosen layouts) (get_or layouts place.0 []) (picked_at chosen layouts place.0 [] are.width both.0) in
      what_is_legal_is_a_choice (node_at layouts t chosen) card (record { position = t; left = left }) are.node (state_among (node_at layouts t chosen) left among)
      (sym (legal_there layouts t card place.0 [] (omega (arith, low, are.width))) ∙ both.1)

  pub choice_kept : has_card (choices (node_at layouts t chosen)) card ≡ true → 1 ≤ ones_of kept
  choice_kept choice =
      let after = subst IsNode child_theirs (a_choice_leads_to_a_node (node_at layouts t chosen) card are.node choice) in
      some_layouts layouts (after_card t card) kept (record { width = kept_width; node = after })

  pub layouts_after_theirs : 1 ≤ ones_of kept → AreLayoutsAt layouts (after_card t card) kept
  layouts_after_theirs some = record {
    width = kept_width;
    node = subst IsNode child_theirs (a_choice_leads_to_a_node (node_at layouts t chosen) card are.node (kept_choice some));
  }

  pub can_play_theirs : 1 ≤ ones_of kept → CanPlay t card
  can_play_theirs some = a_choice_can_be_played (node_at layouts t chosen) card are.node (kept_choice some)

  -- against the defenders what is made is made still
  pub made_after_theirs : is_declarers (to_play t) ≡ false → is_some (decided t) ≡ false → 1 ≤ ones_of kept → AreAllMade (node_at layouts t chosen) → AreAllMade (node_at layouts (after_card t card) kept)
  made_after_theirs theirs live some each =
      let n = node_at layouts t chosen in
      All-at (λ s. makes s ≡ true) (states (node_at layouts (after_card t card) kept))
      (known_theirs n card are.node live theirs (node_at layouts (after_card t card) kept) Known.AllMade (sym child_theirs) (All-from (λ s. makes s ≡ true) (states n) each))

  kept_within : Dominates chosen kept
  kept_within = dominates_ones chosen kept (are.width ∙ sym kept_width) (λ k h. (meet_ones chosen (legal_at layouts t card) k (subst (λ (v : Vector). HasOne v k) is h)).0)

  kept_legal : Dominates (legal_at layouts t card) kept
  kept_legal = dominates_ones (legal_at layouts t card) kept (length-legal_at layouts t card ∙ sym kept_width) (λ k h. (meet_ones chosen (legal_at layouts t card) k (subst (λ (v : Vector). HasOne v k) is h)).1)

  module _ (theirs : is_declarers (to_play t) ≡ false) (live : is_some (decided t) ≡ false) (less : ℕ) (lost : Vector) (low : Dominates kept lost) (out : IsLostAt layouts (after_card t card) (suc less) lost) where
    pub lost_within : Dominates chosen lost
    lost_within = Dominates-trans chosen kept lost kept_within low

    lost_layouts : AreLayoutsAt layouts t lost
    lost_layouts = layouts_in_part layouts t chosen lost are lost_within (some_layouts layouts (after_card t card) lost out.some)

    lost_legal : Dominates (legal_at layouts t card) lost
    lost_legal = Dominates-trans (legal_at layouts t card) kept lost kept_legal low

    same_lost : length lost ≡ length (legal_at layouts t card)
    same_lost = sym (width_below (legal_at layouts t card) lost lost_legal)

    child_lost : child (node_at layouts t lost) card ≡ node_at layouts (after_card t card) lost
    child_lost = keeps_numbers layouts t lost card lost_layouts.width
        ∙ ap (λ (v : Vector). node_at layouts (after_card t card) v) (meet_within lost (legal_at layouts t card) same_lost lost_legal)

    lost_choice : has_card (choices (node_at layouts t lost)) card ≡ true
    lost_choice =
        let place = some_place lost (some_layouts layouts (after_card t card) lost out.some) in
        let low_place = one_within lost place.0 place.1 in
        let left = still_held t (get_or layouts place.0 []) in
        let among : Contains (node_at layouts t lost).lefts left = Contains-map (still_held t) (items_where_true lost layouts) (get_or layouts place.0 []) (picked_at lost layouts place.0 [] lost_layouts.width place.1) in
        what_is_legal_is_a_choice (node_at layouts t lost) card (record { position = t; left = left }) lost_layouts.node (state_among (node_at layouts t lost) left among)
        (sym (legal_there layouts t card place.0 [] (omega (arith, low_place, lost_layouts.width))) ∙ one_at (legal_at layouts t card) lost place.0 lost_legal place.1)

    -- a core after the card is one before it
    pub core_by_reply : IsLostAt layouts t (suc less) lost
    core_by_reply = record {
      some = lost_layouts;
      lost = lost_by_reply (node_at layouts t lost) less lost_layouts.node live card theirs lost_choice
          (λ w. out.lost (subst (λ (k : NodeValue). IsWon k (suc less)) child_lost w));
    }

-- each choice is still to come, or won
pub record AreWonSoFar (layouts : List (List ℕ)) (t : PositionValue) (m : ℕ) (chosen : Vector) (rest : List ℕ) : Type 0 where
  pub each : (card : ℕ) → has_card (choices (node_at layouts t chosen)) card ≡ true → (has_card rest card ≡ true) ⊎ IsWon (child (node_at layouts t chosen) card) m

module _ (layouts : List (List ℕ)) (t : PositionValue) (m : ℕ) (chosen : Vector) (are : AreLayoutsAt layouts t chosen) where
  pub replies_none : is_declarers (to_play t) ≡ false → AreWonSoFar layouts t m chosen t.unseen
  replies_none theirs = record {
    each = λ card choice. inl (subst (λ (cards : List ℕ). has_card cards card ≡ true) (held_theirs t (to_play t) theirs) (a_choice_can_be_played (node_at layouts t chosen) card are.node choice));
  }

  pub replies_more : (rest later : List ℕ) (card : ℕ) → IsTaken rest card later → (has_card (choices (node_at layouts t chosen)) card ≡ true → IsWon (child (node_at layouts t chosen) card) m)
      → AreWonSoFar layouts t m chosen rest → AreWonSoFar layouts t m chosen later
  replies_more rest later card taken won so = record {
    each = λ c choice. ⊎_elim
        (λ (yet : has_card rest c ≡ true). ⊎_elim
        (λ (e : c ≡ card). inr (subst (λ (x : ℕ). IsWon (child (node_at layouts t chosen) x) m) (sym e) (won (subst (λ (x : ℕ). has_card (choices (node_at layouts t chosen)) x ≡ true) e choice))))
        (λ (after : Contains later c). inl (has_card-from_Contains later c after))
        (taken.others c (Contains-from_has_card rest c yet)))
        (λ (w : IsWon (child (node_at layouts t chosen) c) m). inr w)
        (so.each c choice);
  }

pub replies_all : (layouts : List (List ℕ)) (t : PositionValue) (less : ℕ) (chosen : Vector) → AreLayoutsAt layouts t chosen → is_declarers (to_play t) ≡ false → is_some (decided t) ≡ false
    → (rest : List ℕ) → rest ≡ [] → AreWonSoFar layouts t (suc less) chosen rest → IsWon (node_at layouts t chosen) (suc less)
replies_all layouts t less chosen are theirs live rest none so =
    won_by_replies (node_at layouts t chosen) less are.node live theirs
    (λ card choice. ⊎_elim (λ (yet : has_card rest card ≡ true). absurd (false≢true (ap (λ (cards : List ℕ). has_card cards card) (sym none) ∙ yet))) (λ (w : IsWon (child (node_at layouts t chosen) card) (suc less)). w) (so.each card choice))
