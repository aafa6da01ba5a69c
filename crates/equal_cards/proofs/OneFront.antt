-- Equal cards lead to nodes with one front.
use Rattle.std.proofs.Common.{◌≡◌, ℕ, ◌<◌, ◌↔◌, List, sym, subst}
use Rattle.card_sets.specs.Cards.{suit_of}
use Rattle.win_vectors.specs.Fronts.{Vector}
use Rattle.trick_rules.specs.Nodes.{NodeValue, IsNode, choices, child}
use Rattle.trick_rules.proofs.PlayLaws.{a_choice_leads_to_a_node}
use Rattle.double_dummy.proofs.Swap.{swap, swap-swap}
use Rattle.strategy_games.specs.Games.{mask}
use Rattle.strategy_games.specs.Plans.{IsFront}
use Rattle.strategy_games.specs.Alike.{IsKeptByPlay}
use Rattle.strategy_tree.specs.Bridge.{bridge}
use Rattle.strategy_tree.proofs.BridgeLaws.{alike}
use Rattle.strategy_tree.proofs.CardLists.{has_card-from_Contains, Contains-from_has_card}
use Rattle.equal_cards.specs.Equals.{AreEqualAt}
use Rattle.equal_cards.proofs.Twins.{twins-child, twins-mask}
use Rattle.equal_cards.proofs.TwinNodes.{TwinNodes, nodes-turn, nodes-decided, nodes-results, choice_there, choice_back}
use Rattle.equal_cards.proofs.Start.{high-below, twins-start}

module _ (a b : ℕ) (suit : suit_of a ≡ suit_of b) (order : a < b) (low : b < 52) where
  -- the child by a card of the twin, and by the card's old name
  same_back : (n m : NodeValue) → TwinNodes a b n m → (d : ℕ) → (mask bridge n (swap a b d) ≡ mask bridge m d) × TwinNodes a b (child n (swap a b d)) (child m d)
  same_back n m r d =
      subst (λ e. (mask bridge n (swap a b d) ≡ mask bridge m e) × TwinNodes a b (child n (swap a b d)) (child m e)) (swap-swap a b d)
      (sym (twins-mask a b suit order low n m r (swap a b d)), twins-child a b suit order low n m r (swap a b d))

  pub twins_kept : IsKeptByPlay bridge IsNode (TwinNodes a b)
  twins_kept = record {
    turn = λ n m ok mok r. nodes-turn a b n m ok r;
    decided = λ n m ok mok r. nodes-decided a b n m ok r;
    results = λ n m ok mok r. nodes-results a b suit order low n m r;
    there = λ n m c ok mok r live among. (
      swap a b c,
      Contains-from_has_card (choices m) (swap a b c) (choice_there a b suit order low n m r c mok (has_card-from_Contains (choices n) c among)),
      sym (twins-mask a b suit order low n m r c),
      twins-child a b suit order low n m r c,
    );
    back = λ n m d ok mok r live among. (
      swap a b d,
      Contains-from_has_card (choices n) (swap a b d) (choice_back a b suit order low n m r d ok (has_card-from_Contains (choices m) d among)),
      (same_back n m r d).0,
      (same_back n m r d).1,
    );
  }

pub one_front : (n : NodeValue) (low high moves : ℕ) (front : List Vector) → IsNode n → AreEqualAt n low high
    → IsFront bridge (child n low) moves front ↔ IsFront bridge (child n high) moves front
one_front n low high moves front ok eq =
    alike (TwinNodes low high) (twins_kept low high eq.suit eq.order (high-below n low high ok eq)) (child n low) (child n high) moves front
    (a_choice_leads_to_a_node n low ok eq.low_choice) (a_choice_leads_to_a_node n high ok eq.high_choice) (twins-start n low high ok eq)
