-- A defender's neighbour: with the layouts in which both cards are legal the two are equal cards.
use Rattle.std.proofs.Common.{◌≡◌, ◌∙◌, ◌≤◌, ℕ, true, List, [], ◌∷◌, length, map, filter, Contains, refl, sym, ap, subst, ⊎_elim, arith}
use Rattle.std.proofs.lemmas.List.{length-map}
use Rattle.std.proofs.lemmas.List.Elements.{All-filter}
use Rattle.card_sets.specs.SetWords.{has_card}
use Rattle.win_vectors.specs.Vectors.{ones_of}
use Rattle.win_vectors.specs.Fronts.{Vector}
use Rattle.trick_rules.specs.Positions.{State, FitsLeft}
use Rattle.trick_rules.specs.Play.{take_out, after_card, legal_in}
use Rattle.trick_rules.specs.Nodes.{NodeValue, IsNode, states, is_legal, choices, child, child_mask}
use Rattle.trick_rules.proofs.PlayLaws.{a_choice_leads_to_a_node, what_is_legal_is_a_choice}
use Rattle.strategy_games.proofs.Lists.{Contains-here, Contains-map, Contains-of_map, Contains-filter, Contains-of_filter, map-agree}
use Rattle.strategy_games.proofs.Masks.{filter_all}
use Rattle.strategy_games.specs.Plans.{IsFront}
use Rattle.strategy_tree.specs.Bridge.{bridge}
use Rattle.strategy_tree.proofs.BridgeNodes.{length-child_lefts}
use Rattle.equal_cards.proofs.OneFront.{one_front}
use Rattle.set_nodes.proofs.Parts.{IsPart}
use Rattle.set_nodes.specs.Neighbours.{AreNeighbours, TellsNoMore, NeighbourIsEnough}
use Rattle.set_nodes.proofs.Won.{IsWon, won_in_part, won_alike}

module _ (n : NodeValue) (card other m : ℕ) (ok : IsNode n) (choice : has_card (choices n) card ≡ true) (tells : TellsNoMore n other card) where
  -- the node with the layouts in which the card is legal
  abbrev here : NodeValue
  here = record { position = n.position; lefts = filter (is_legal n.position card) n.lefts }

  legal_here : (left : List ℕ) → Contains here.lefts left → Contains n.lefts left × (is_legal n.position card left ≡ true)
  legal_here left among = Contains-of_filter (is_legal n.position card) n.lefts left among

  other_here : (left : List ℕ) → Contains here.lefts left → is_legal n.position other left ≡ true
  other_here left among = let at = legal_here left among in tells.wherever left at.0 at.1

  -- after the card there are no others
  same_child : child here card ≡ child n card
  same_child = ap (λ (lefts : List (List ℕ)). record { position = after_card n.position card; lefts = map (take_out card) lefts })
      (filter_all (is_legal n.position card) here.lefts (λ left among. (legal_here left among).1))

  here_node : IsNode here
  here_node =
      let after = a_choice_leads_to_a_node n card ok choice in
      let some : length (child n card).lefts ≡ length here.lefts = length-map here.lefts (take_out card) in
      record {
        sound = ok.sound;
        fits = All-filter (is_legal n.position card) (FitsLeft n.position) n.lefts ok.fits;
        some = omega (arith, some, after.some);
        few = omega (arith, some, after.few);
      }

  same_layouts : child_mask here card ≡ child_mask here other
  same_layouts = map-agree (is_legal n.position card) (is_legal n.position other) here.lefts (λ left among. (legal_here left among).1 ∙ sym (other_here left among))

  first_left : (lefts : List (List ℕ)) → 1 ≤ length lefts → (left : List ℕ) × Contains lefts left
  first_left [] some = absurd (omega (arith, some))
  first_left (left ∷ lefts) some = (left, Contains-here left lefts)

  some_state : (s : State) × Contains (states here) s × (has_card (legal_in s) card ≡ true) × (has_card (legal_in s) other ≡ true)
  some_state =
      let left = first_left here.lefts here_node.some in (
        record { position = n.position; left = left.0 },
        Contains-map (λ left. record { position = n.position; left = left }) here.lefts left.0 left.1,
        (legal_here left.0 left.1).1,
        other_here left.0 left.1,
      )

  card_here : has_card (choices here) card ≡ true
  card_here = what_is_legal_is_a_choice here card some_state.0 here_node some_state.1 some_state.2

  other_choice : has_card (choices here) other ≡ true
  other_choice = what_is_legal_is_a_choice here other some_state.0 here_node some_state.1 some_state.3

  fronts : (front : List Vector) → IsFront bridge (child here other) m front → IsFront bridge (child here card) m front
  fronts front f = ⊎_elim
      (λ (near : AreNeighbours n.position card other).
      (one_front here card other m front here_node (record { low_choice = card_here; high_choice = other_choice; same_layouts = same_layouts; suit = near.suit; order = near.order; between = near.between })).1 f)
      (λ (near : AreNeighbours n.position other card).
      (one_front here other card m front here_node (record { low_choice = other_choice; high_choice = card_here; same_layouts = sym same_layouts; suit = near.suit; order = near.order; between = near.between })).0 f)
      tells.near

  -- after the other card there are some of the layouts that there are at the whole node
  part_after : IsPart (child here other) (child n other)
  part_after = record {
    position = refl;
    layouts = λ left among.
        let before = Contains-of_map (take_out other) (filter (is_legal n.position other) here.lefts) left among in
        let there = Contains-of_filter (is_legal n.position other) here.lefts before.0 before.1 in
        subst (λ x. Contains (child n other).lefts x) before.2
        (Contains-map (take_out other) (filter (is_legal n.position other) n.lefts) before.0
        (Contains-filter (is_legal n.position other) n.lefts before.0 (legal_here before.0 there.0).0 there.1));
  }

  other_somewhere : has_card (choices n) other ≡ true
  other_somewhere =
      let left = first_left here.lefts here_node.some in
      what_is_legal_is_a_choice n other (record { position = n.position; left = left.0 }) ok
      (Contains-map (λ left. record { position = n.position; left = left }) n.lefts left.0 (legal_here left.0 left.1).0) (other_here left.0 left.1)

  pub enough : IsWon (child n other) m → IsWon (child n card) m
  enough w =
      let after_other = a_choice_leads_to_a_node here other here_node other_choice in
      let width : length (child here other).lefts ≡ length (child here card).lefts =
      length-child_lefts here other ∙ ap ones_of (sym same_layouts) ∙ sym (length-child_lefts here card) in
      subst (λ (k : NodeValue). IsWon k m) same_child
      (won_alike (child here other) (child here card) m after_other width fronts
      (won_in_part (child here other) (child n other) m after_other (a_choice_leads_to_a_node n other ok other_somewhere) part_after w))

pub neighbour_is_enough : NeighbourIsEnough
neighbour_is_enough n card other m ok choice tells w = enough n card other m ok choice tells w
