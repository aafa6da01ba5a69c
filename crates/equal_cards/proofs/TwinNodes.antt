-- Play goes on at a node as it does at its twin.
use Rattle.std.proofs.Common.{◌≡◌, ℕ, ◌<◌, ◌≤◌, true, is_some, Contains, List, [], ◌∷◌, length, map, sym, ap, ◌∙◌, arith}
use Rattle.std.specs.List.{AllZip}
use Rattle.std.proofs.lemmas.List.Folds.{Any-from_list_any}
use Rattle.card_sets.specs.Cards.{suit_of}
use Rattle.card_sets.specs.SetWords.{has_card}
use Rattle.trick_rules.specs.Positions.{PositionValue, State, to_play}
use Rattle.trick_rules.specs.Play.{legal_in, decided, makes, is_declarers}
use Rattle.trick_rules.specs.Nodes.{NodeValue, IsNode, states, is_legal, choices}
use Rattle.trick_rules.proofs.NodeLemmas.{legal_from_choices, state_of}
use Rattle.trick_rules.proofs.PlayLaws.{what_is_legal_is_a_choice}
use Rattle.double_dummy.proofs.Swap.{swap, swap-swap}
use Rattle.strategy_games.proofs.Lists.{Contains-map, AllZip-at, AllZip-of}
use Rattle.equal_cards.proofs.Zips.{zip-map_same}
use Rattle.equal_cards.proofs.Twins.{AreTwins, twins-legal, twins-makes, twins-turn, twins-decided}

-- each layout of the one has its twin in the other
abbrev pub TwinNodes : ℕ → ℕ → NodeValue → NodeValue → Type 0
TwinNodes a b n m = AllZip (AreTwins a b) (states n) (states m)

-- a layout in which a choice is legal
legal_layout : (n : NodeValue) (card : ℕ) → has_card (choices n) card ≡ true → (s : State) × Contains (states n) s × (has_card (legal_in s) card ≡ true)
legal_layout n card h =
    let some = Any-from_list_any (is_legal n.position card) n.lefts (legal_from_choices n card h) in
    (state_of n.position some.1, Contains-map (state_of n.position) n.lefts some.1 (some.0, some.2, some.3), some.4)

-- the first layouts
first_twins : (a b : ℕ) (t u : PositionValue) (lefts others : List (List ℕ)) → 1 ≤ length lefts → AllZip (AreTwins a b) (map (state_of t) lefts) (map (state_of u) others)
    → (left : List ℕ) × (other : List ℕ) × AreTwins a b (state_of t left) (state_of u other)
first_twins a b t u [] others some r = absurd (omega arith)
first_twins a b t u (left ∷ lefts) [] some r = elim r [ ]
first_twins a b t u (left ∷ lefts) (other ∷ others) some r = (left, other, r.0)

module _ (a b : ℕ) (n m : NodeValue) (ok : IsNode n) (r : TwinNodes a b n m) where
  pub nodes-turn : is_declarers (to_play n.position) ≡ is_declarers (to_play m.position)
  nodes-turn = let f = first_twins a b n.position m.position n.lefts m.lefts ok.some r in sym (twins-turn a b (state_of n.position f.0) (state_of m.position f.1) f.2)

  pub nodes-decided : is_some (decided n.position) ≡ is_some (decided m.position)
  nodes-decided =
      let f = first_twins a b n.position m.position n.lefts m.lefts ok.some r in
      ap is_some (sym (twins-decided a b (state_of n.position f.0) (state_of m.position f.1) f.2))

module _ (a b : ℕ) (suit : suit_of a ≡ suit_of b) (order : a < b) (low : b < 52) (n m : NodeValue) (r : TwinNodes a b n m) where
  pub nodes-results : map (λ s. makes s) (states n) ≡ map (λ s. makes s) (states m)
  nodes-results = sym (zip-map_same (AreTwins a b) (λ s. makes s) (λ s. makes s) (twins-makes a b suit order low) (states n) (states m) r)

  pub choice_there : (c : ℕ) → IsNode m → has_card (choices n) c ≡ true → has_card (choices m) (swap a b c) ≡ true
  choice_there c mok h =
      let at = legal_layout n c h in
      let twin = AllZip-at (AreTwins a b) (states n) (states m) r at.0 at.1 in
      what_is_legal_is_a_choice m (swap a b c) twin.0 mok twin.1 (twins-legal a b suit order low at.0 twin.0 twin.2 c ∙ at.2)

  pub choice_back : (d : ℕ) → IsNode n → has_card (choices m) d ≡ true → has_card (choices n) (swap a b d) ≡ true
  choice_back d ok h =
      let at = legal_layout m d h in
      let twin = AllZip-of (AreTwins a b) (states n) (states m) r at.0 at.1 in
      what_is_legal_is_a_choice n (swap a b d) twin.0 ok twin.1
      (sym (twins-legal a b suit order low twin.0 at.0 twin.2 (swap a b d)) ∙ ap (has_card (legal_in at.0)) (swap-swap a b d) ∙ at.2)
