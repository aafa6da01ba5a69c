-- What is known of double dummy's results at a node.
use Rattle.std.proofs.Common.{◌≡◌, ◌∙◌, ℕ, true, false, List, [], ◌∷◌, length, map, filter, replicate, get_or, Contains, All, refl, sym, ap, subst, arith}
use Rattle.std.specs.List.{items_where_true}
use Rattle.std.proofs.lemmas.List.Elements.{All-contains}
use Rattle.card_sets.specs.SetWords.{has_card}
use Rattle.win_vectors.specs.Vectors.{ones_of}
use Rattle.win_vectors.specs.Fronts.{Vector, Dominates}
use Rattle.win_vectors.proofs.VectorLemmas.{all-from_ones}
use Rattle.trick_rules.specs.Positions.{PositionValue, State, IsState, to_play}
use Rattle.trick_rules.specs.Play.{legal_in, after, is_declarers, is_over, makes}
use Rattle.trick_rules.specs.Nodes.{NodeValue, IsNode, states, choices, child}
use Rattle.trick_rules.proofs.PlayLaws as play
use Rattle.trick_rules.proofs.CardLists.{card_from_list_any, cards_from_list_all}
use Rattle.strategy_games.proofs.Lists.{Contains-single, Contains-of_map, Contains-of_filter, All-from, All-at, map-agree}
use Rattle.strategy_games.proofs.Vectors.{Dominates-refl}
use Rattle.strategy_games.proofs.Masks.{replicate-map, map-map, Dominates-of_map}
use Rattle.strategy_games.proofs.Fronts.{front_unique}
use Rattle.strategy_games.proofs.Wins.{states-child}
use Rattle.strategy_games.specs.Plans.{CanWin, IsFront}
use Rattle.strategy_tree.specs.Bridge.{bridge}
use Rattle.strategy_tree.proofs.Rules.{lawful, table_of, going_on}
use Rattle.strategy_tree.proofs.BridgeLaws.{recursion}
use Rattle.strategy_tree.proofs.CardLists.{Contains-from_has_card}
use Rattle.strategy_tree.proofs.BridgeNodes.{length-states}
use Rattle.equal_cards.specs.Equals.{ComeToTheSame}
use Rattle.alphamu_core.specs.declared.known.Known.{Known}
use Rattle.alphamu_core.specs.declared.known.Known.TheVariants.{Nothing, AllMade}
use Rattle.alphamu_core.specs.Judging.{IsKnown}
use Rattle.alphamu_core.specs.Kept.{AreEnough}
use Rattle.alphamu_core.specs.Parts.{part_of}
use Rattle.alphamu_core.proofs.Judging.{length-results}
use Rattle.alphamu_core.proofs.Parts.{states-part, picked_passes}

-- of some cards one is the only one
pub only_one : (cards : List ℕ) → length cards ≡ 1 → (card other : ℕ) → Contains cards card → Contains cards other → other ≡ card
only_one [] one card other tried among = absurd cc
only_one (x ∷ []) one card other tried among = sym (Contains-single x other among) ∙ Contains-single x card tried
only_one (x ∷ y ∷ rest) one card other tried among = absurd (omega arith)

module _ (n : NodeValue) where
  ones : replicate (length n.lefts) true ≡ map (λ s. true) (states n)
  ones = ap (λ width. replicate width true) (sym (length-states n)) ∙ replicate-map true (states n)

  -- the results, if each layout is made
  pub all_made : All (λ s. makes s ≡ true) (states n) → replicate (length n.lefts) true ≡ map (λ s. makes s) (states n)
  all_made each = ones ∙ sym (map-agree (λ s. makes s) (λ s. true) (states n) (All-at (λ s. makes s ≡ true) (states n) each))

  -- as many are made as there are layouts
  pub known_whole : (made : Vector) → made ≡ map (λ s. makes s) (states n) → ones_of made ≡ length n.lefts → All (λ s. makes s ≡ true) (states n)
  known_whole made results all =
      let wide : length made ≡ length n.lefts = ap (λ (v : Vector). length v) results ∙ length-results n in
      let full : made ≡ map (λ s. true) (states n) = all-from_ones made (all ∙ sym wide) ∙ ap (λ width. replicate width true) wide ∙ ones in
      let above : Dominates (map (λ s. makes s) (states n)) (map (λ s. true) (states n)) = subst (λ v. Dominates v (map (λ s. true) (states n))) (sym full ∙ results) (Dominates-refl (map (λ s. true) (states n))) in
      All-from (λ s. makes s ≡ true) (states n) (λ s among. Dominates-of_map (λ s. makes s) (λ s. true) (states n) above s among refl)

  -- the lost layouts are left out
  pub known_part : (made : Vector) → made ≡ map (λ s. makes s) (states n) → All (λ s. makes s ≡ true) (states (part_of n made))
  known_part made results = All-from (λ s. makes s ≡ true) (states (part_of n made))
      (λ s among. picked_passes (λ s. makes s) (states n) s
      (subst (λ (ss : List State). Contains ss s) (states-part n made ∙ ap (λ (kept : Vector). items_where_true kept (states n)) results) among))

  module _ (card : ℕ) (sound : IsNode n) (open_result : bridge.is_decided n ≡ false) (theirs : bridge.is_ours n ≡ false) where
    -- against the defenders it makes only if each of their legal cards lets it
    makes_still : (s : State) → Contains (states n) s → has_card (legal_in s) card ≡ true → makes s ≡ true → makes (after s card) ≡ true
    makes_still s among legal made =
        let at : s.position ≡ n.position = table_of n s among in
        let state : IsState s = All-contains (λ s. IsState s) (states n) s (play.a_layout_gives_a_state n sound) among in
        let going : is_over s.position ≡ false = subst (λ (t : PositionValue). is_over t ≡ false) (sym at) (going_on n.position open_result) in
        let turn : is_declarers (to_play s.position) ≡ false = subst (λ (t : PositionValue). is_declarers (to_play t) ≡ false) (sym at) theirs in
        cards_from_list_all (λ c. makes (after s c)) (legal_in s) (sym (play.makes_against_each_card s state going turn) ∙ made) card legal

    pub known_theirs : (m : NodeValue) (known : Known) → m ≡ child n card → IsKnown n known → IsKnown m known
    known_theirs m Nothing is_child knows = tt
    known_theirs m AllMade is_child knows = subst (λ m. All (λ s. makes s ≡ true) (states m)) (sym is_child)
        (All-from (λ s. makes s ≡ true) (states (child n card))
        (λ s among.
        let before = Contains-of_map (λ s. after s card) (filter (λ s. has_card (legal_in s) card) (states n)) s (subst (λ (ss : List State). Contains ss s) (play.a_child_keeps_the_states n card) among) in
        let there = Contains-of_filter (λ s. has_card (legal_in s) card) (states n) before.0 before.1 in
        subst (λ s. makes s ≡ true) before.2 (makes_still before.0 there.0 there.1 (All-at (λ s. makes s ≡ true) (states n) knows before.0 there.0))))

  -- ---- declarer's side

  abbrev results : NodeValue → Vector
  results m = map (λ s. makes s) (states m)

  -- after two cards that come to the same double dummy has the same results: they are the front with no moves
  same_results : (card other : ℕ) → ComeToTheSame n card other → results (child n card) ≡ results (child n other)
  same_results card other same =
      let mine : IsFront bridge (child n card) 0 (results (child n card) ∷ []) = recursion.at_stop (child n card) 0 refl in
      let his : IsFront bridge (child n card) 0 (results (child n other) ∷ []) = (same.one_front 0 (results (child n other) ∷ [])).1 (recursion.at_stop (child n other) 0 refl) in
      ap (λ (vs : List Vector). get_or vs 0 []) (front_unique (CanWin bridge (child n card) 0) (results (child n card) ∷ []) (results (child n other) ∷ []) mine his)

  module _ (sound : IsNode n) (open_result : bridge.is_decided n ≡ false) (ours : bridge.is_ours n ≡ true) where
    results_after : (card : ℕ) → Contains (choices n) card → results (child n card) ≡ map (λ s. makes (after s card)) (states n)
    results_after card choice = ap (λ (ss : List State). map (λ s. makes s) ss) (states-child bridge IsNode lawful n card sound ours choice) ∙ map-map (λ s. makes s) (λ s. after s card) (states n)

    -- with one card to try declarer's side makes what it makes by that card
    module _ (cards : List ℕ) (card : ℕ) (enough : AreEnough n cards) (tried : Contains cards card) (only : (other : ℕ) → Contains cards other → other ≡ card) where
      makes_by_it : (s : State) → Contains (states n) s → makes s ≡ true → makes (after s card) ≡ true
      makes_by_it s among made =
          let at : s.position ≡ n.position = table_of n s among in
          let state : IsState s = All-contains (λ s. IsState s) (states n) s (play.a_layout_gives_a_state n sound) among in
          let going : is_over s.position ≡ false = subst (λ (t : PositionValue). is_over t ≡ false) (sym at) (going_on n.position open_result) in
          let turn : is_declarers (to_play s.position) ≡ true = subst (λ (t : PositionValue). is_declarers (to_play t) ≡ true) (sym at) ours in
          let some = card_from_list_any (λ c. makes (after s c)) (legal_in s) (sym (play.makes_by_some_card s state going turn) ∙ made) in
          let choice : Contains (choices n) some.0 = Contains-from_has_card (choices n) some.0 (play.what_is_legal_is_a_choice n some.0 s sound among some.1) in
          let kept = enough.each some.0 choice in
          let same : ComeToTheSame n card some.0 = subst (λ (c : ℕ). ComeToTheSame n c some.0) (only kept.0 kept.1) kept.2 in
          let alike : map (λ s. makes (after s card)) (states n) ≡ map (λ s. makes (after s some.0)) (states n) =
          sym (results_after card (enough.within card tried)) ∙ same_results card some.0 same ∙ results_after some.0 choice in
          let above : Dominates (map (λ s. makes (after s card)) (states n)) (map (λ s. makes (after s some.0)) (states n)) =
          subst (λ v. Dominates v (map (λ s. makes (after s some.0)) (states n))) (sym alike) (Dominates-refl (map (λ s. makes (after s some.0)) (states n))) in
          Dominates-of_map (λ s. makes (after s card)) (λ s. makes (after s some.0)) (states n) above s among some.2

      pub known_ours : (known : Known) → IsKnown n known → IsKnown (child n card) known
      known_ours Nothing knows = tt
      known_ours AllMade knows = All-from (λ s. makes s ≡ true) (states (child n card))
          (λ s among.
          let before = Contains-of_map (λ s. after s card) (states n) s (subst (λ (ss : List State). Contains ss s) (states-child bridge IsNode lawful n card sound ours (enough.within card tried)) among) in
          subst (λ s. makes s ≡ true) before.2 (makes_by_it before.0 before.1 (All-at (λ s. makes s ≡ true) (states n) knows before.0 before.1)))
