-- The nodes after two equal cards are twins.
use Rattle.std.proofs.Common.{◌≡◌, ℕ, ◌<◌, true, Contains, List, [], ◌∷◌, filter, refl, sym, ap, subst, ◌∙◌}
use Rattle.std.specs.List.{AllZip}
use Rattle.card_sets.specs.SetWords.{has_card}
use Rattle.trick_rules.specs.Positions.{State, to_play, IsState}
use Rattle.trick_rules.specs.Play.{legal_in, after}
use Rattle.trick_rules.specs.Nodes.{NodeValue, IsNode, states, child}
use Rattle.trick_rules.proofs.Soundness.{held_low}
use Rattle.trick_rules.proofs.PlayLaws.{a_child_keeps_the_states, a_choice_can_be_played, a_layout_gives_a_state}
use Rattle.double_dummy.specs.Equals.{AreEqual}
use Rattle.double_dummy.proofs.EqualCards.{mirrored-start, follows-start}
use Rattle.trick_rules.proofs.States.{after-IsState}
use Rattle.strategy_games.proofs.Lists.{All-at, Contains-here, Contains-there}
use Rattle.strategy_tree.proofs.BridgeNodes.{mask-bridge}
use Rattle.strategy_tree.proofs.Rules.{table_of}
use Rattle.equal_cards.specs.Equals.{AreEqualAt}
use Rattle.equal_cards.proofs.Zips.{agree_at, zip-filter, zip-map}
use Rattle.equal_cards.proofs.Twins.{AreTwins}
use Rattle.equal_cards.proofs.TwinNodes.{TwinNodes}

-- a list beside itself
self_zip : {X : Type 0} (P : X → Type 0) (xs : List X) → ((x : X) → Contains xs x → P x) → AllZip (λ x y. (x ≡ y) × P x) xs xs
self_zip P [] h = tt
self_zip P (x ∷ xs) h = ((refl, h x (Contains-here x xs)), self_zip P xs (λ y k. h y (Contains-there x xs y k)))

module _ (n : NodeValue) (low high : ℕ) (ok : IsNode n) (eq : AreEqualAt n low high) where
  -- a layout of the node, in which the two cards are both legal or neither
  record IsAtNode (s : State) : Type 0 where
    pub state : IsState s
    pub position : s.position ≡ n.position
    pub legal : has_card (legal_in s) low ≡ has_card (legal_in s) high

  pub high-below : high < 52
  high-below = held_low n.position ok.sound high (to_play n.position) (a_choice_can_be_played n high ok eq.high_choice)

  at_node : (s : State) → Contains (states n) s → IsAtNode s
  at_node s among = record {
    state = All-at IsState (states n) (a_layout_gives_a_state n ok) s among;
    position = table_of n s among;
    legal = agree_at (λ u. has_card (legal_in u) low) (λ u. has_card (legal_in u) high) (states n) (mask-bridge n low ∙ eq.same_layouts ∙ sym (mask-bridge n high)) s among;
  }

  start_at : (s : State) → IsAtNode s → has_card (legal_in s) low ≡ true → AreTwins low high (after s low) (after s high)
  start_at s at legal =
      let legal_high : has_card (legal_in s) high ≡ true = sym at.legal ∙ legal in
      let equal : AreEqual s low high = record {
        low_legal = legal;
        high_legal = legal_high;
        suit = eq.suit;
        order = eq.order;
        between = λ card above below. rw at.position (eq.between card above below);
      } in
      record {
        state = after-IsState s at.state low legal;
        twin = after-IsState s at.state high legal_high;
        mirrored = mirrored-start s at.state low high equal high-below;
        follows = follows-start s at.state low high equal;
      }

  pub twins-start : TwinNodes low high (child n low) (child n high)
  twins-start =
      rw (a_child_keeps_the_states n low, a_child_keeps_the_states n high)
      (zip-map (λ s u. ((s ≡ u) × IsAtNode s) × (has_card (legal_in s) low ≡ true)) (AreTwins low high) (λ s. after s low) (λ s. after s high)
      (λ s u r. subst (λ x. AreTwins low high (after s low) (after x high)) r.0.0 (start_at s r.0.1 r.1))
      (filter (λ s. has_card (legal_in s) low) (states n)) (filter (λ s. has_card (legal_in s) high) (states n))
      (zip-filter (λ s u. (s ≡ u) × IsAtNode s) (λ s. has_card (legal_in s) low) (λ s. has_card (legal_in s) high)
      (λ s u r. ap (λ x. has_card (legal_in x) high) (sym r.0) ∙ sym r.1.legal) (states n) (states n) (self_zip IsAtNode (states n) at_node)))
