-- The cards of declarer's side that don't keep a vector.
use Rattle.std.proofs.Common.{◌≡◌, ◌∙◌, ◌-◌, ◌<◌, ◌≤◌, ◌++◌, ℕ, suc, true, false, List, [], ◌∷◌, Contains, length, sym, ap, subst, append_assoc, arith, ⊎_elim}
use Rattle.std.proofs.lemmas.List.{append-nil}
use Rattle.card_sets.specs.SetWords.{IsCardSet}
use Rattle.card_sets.proofs.Sets.{tail-after}
use Rattle.win_vectors.specs.Fronts.{Vector, Dominates}
use Rattle.win_vectors.proofs.Orders.{Dominates-antisym}
use Rattle.trick_rules.specs.Nodes.{NodeValue, IsNode, choices, child}
use Rattle.strategy_games.specs.Plans.{stops, tree_size, CanWin}
use Rattle.strategy_games.specs.Choosing.{Keeps, IsFirstOf, IsPick}
use Rattle.strategy_games.proofs.Lists.{Contains-here, Contains-nil, Contains-cons, Contains-single, Contains-append, Contains-append_second, first_is_member}
use Rattle.strategy_games.proofs.Nodes.{by_card_to}
use Rattle.strategy_games.proofs.Vectors.{Dominates-trans}
use Rattle.strategy_tree.specs.Bridge.{bridge}
use Rattle.strategy_tree.proofs.CardLists.{has_card-from_Contains}
use Rattle.strategy_tree.proofs.BridgeLaws.{chosen_plan}
use Rattle.strategy_tree.proofs.Rules.{lawful}
use Rattle.alphamu_core.proofs.OpenNodes.{some_moves, is_open, length-our_child}
use Rattle.plan_finder.specs.Targets.{IsOfFront}
use Rattle.plan_finder.specs.Choices.{IsChoiceSpentAt, KeepsNone}
use Rattle.plan_finder.proofs.Picks.{length-of_front, own_pick}

-- after none of the cards that were passed some vector of the front dominates this one
pub record NoneKeeps (n : NodeValue) (moves : ℕ) (vector : Vector) (cards : List ℕ) : Type 0 where
  pub passed : List ℕ
  pub split : choices n ≡ passed ++ cards
  pub none : (c : ℕ) → Contains passed c → Keeps bridge n (moves - 1) vector c → ⊥

module _ (n : NodeValue) (moves : ℕ) (vector : Vector) where
  pub none_passed : (cards : List ℕ) → cards ≡ choices n → NoneKeeps n moves vector cards
  none_passed cards e = record { passed = []; split = sym e; none = λ c among keeps. Contains-nil c among }

  module _ {cards : List ℕ} (so : NoneKeeps n moves vector cards) where
    -- in the end some card does
    pub some_keeps : IsNode n → stops bridge n moves ≡ false → bridge.is_ours n ≡ true → IsOfFront n moves vector → cards ≡ [] → ⊥
    some_keeps sound goes_on ours of ended =
        let at : IsOfFront n (suc (moves - 1)) vector = subst (λ k. IsOfFront n k vector) (some_moves n moves goes_on) of in
        let kept = chosen_plan.kept n (moves - 1) vector at.0 sound (is_open n moves goes_on) ours at.1 at.2 in
        let all : choices n ≡ so.passed = so.split ∙ ap (λ cards. so.passed ++ cards) ended ∙ append-nil so.passed in
        so.none kept.0 (subst (λ cards. Contains cards kept.0) all kept.1) kept.2

    module _ {card : ℕ} {rest : List ℕ} (taken : cards ≡ card ∷ rest) where
      parts : choices n ≡ so.passed ++ card ∷ rest
      parts = so.split ∙ ap (λ cards. so.passed ++ cards) taken

      pub next_choice : Contains (choices n) card
      next_choice = subst (λ cards. Contains cards card) (sym parts) (Contains-append_second so.passed (card ∷ rest) card (Contains-here card rest))

      -- the first card that keeps the vector isn't before this one
      not_before : IsCardSet cards → (first : ℕ) → IsFirstOf (Keeps bridge n (moves - 1) vector) (choices n) first → card ≤ first
      not_before set first h =
          let among = subst (λ cards. Contains cards first) parts (first_is_member (Keeps bridge n (moves - 1) vector) (choices n) first h) in
          ⊎_elim
          (λ (before : Contains so.passed first). absurd (so.none first before h.4))
          (λ (here : Contains (card ∷ rest) first). ⊎_elim
          (λ (same : card ≡ first). let at : card ≡ first = same in omega arith)
          (λ (later : Contains rest first).
          let after = tail-after card rest (subst (λ cards. IsCardSet cards) taken set) first (has_card-from_Contains rest first later) in
          omega arith)
          (Contains-cons card rest first here))
          (Contains-append so.passed (card ∷ rest) first among)

      module _ {m : NodeValue} (is_child : m ≡ child n card) where
        pub spent_here : (nodes : ℕ) → IsCardSet cards → nodes < tree_size bridge m (moves - 1) → IsChoiceSpentAt n moves vector nodes card
        spent_here nodes set larger = record {
          choice = next_choice;
          larger = subst (λ (m : NodeValue). nodes < tree_size bridge m (moves - 1)) is_child larger;
          not_after = not_before set;
        }

        pub same_width : bridge.is_ours n ≡ true → IsOfFront n moves vector → length vector ≡ length m.lefts
        same_width ours of =
            length-of_front n moves vector of ∙ sym (length-our_child n card ours (has_card-from_Contains (choices n) card next_choice)) ∙ ap (λ (m : NodeValue). length m.lefts) (sym is_child)

        -- the card, where a vector of the front after it dominates this one
        pub first_found : (above : Vector) → IsPick bridge m (moves - 1) vector above → IsFirstOf (Keeps bridge n (moves - 1) vector) (choices n) card × IsPick bridge (child n card) (moves - 1) vector above
        first_found above pick =
            let here : IsPick bridge (child n card) (moves - 1) vector above = subst (λ (m : NodeValue). IsPick bridge m (moves - 1) vector above) is_child pick in
            ((so.passed, rest, parts, so.none, (here.0, here.1, (above, here.2.member, here.2.above))), here)

        -- the last card, which keeps the vector if no other does: no more is won after it, since the vector is of the front
        pub last_pick : IsNode n → stops bridge n moves ≡ false → bridge.is_ours n ≡ true → IsOfFront n moves vector → rest ≡ [] → IsPick bridge m (moves - 1) vector vector
        last_pick sound goes_on ours of ended =
            let at : IsOfFront n (suc (moves - 1)) vector = subst (λ k. IsOfFront n k vector) (some_moves n moves goes_on) of in
            let live = is_open n moves goes_on in
            let kept = chosen_plan.kept n (moves - 1) vector at.0 sound live ours at.1 at.2 in
            let here : card ≡ kept.0 = ⊎_elim
            (λ (before : Contains so.passed kept.0). absurd (so.none kept.0 before kept.2))
            (λ (last : Contains (card ∷ rest) kept.0). Contains-single card kept.0 (subst (λ (cs : List ℕ). Contains (card ∷ cs) kept.0) ended last))
            (Contains-append so.passed (card ∷ rest) kept.0 (subst (λ cards. Contains cards kept.0) parts kept.1)) in
            let keeps : Keeps bridge n (moves - 1) vector card = subst (λ c. Keeps bridge n (moves - 1) vector c) (sym here) kept.2 in
            let u = keeps.2 in
            let won : CanWin bridge n (suc (moves - 1)) u.0 = by_card_to bridge IsNode lawful n (moves - 1) sound live ours u.0 (card, next_choice, keeps.1.reached u.0 u.1) in
            let w = at.1.covered u.0 won in
            let whole : w.0 ≡ vector = at.1.apart w.0 vector w.1 at.2 (Dominates-trans w.0 u.0 vector w.2 u.2) in
            let same : u.0 ≡ vector = Dominates-antisym u.0 vector u.2 (subst (λ v. Dominates v u.0) whole w.2) in
            let own : IsPick bridge (child n card) (moves - 1) vector vector = own_pick (child n card) (moves - 1) vector (keeps.0, keeps.1, subst (λ v. Contains keeps.0 v) same u.1) in
            subst (λ (m : NodeValue). IsPick bridge m (moves - 1) vector vector) (sym is_child) own

        pub none_more : KeepsNone m (moves - 1) vector → NoneKeeps n moves vector rest
        none_more not_here =
            let never : KeepsNone (child n card) (moves - 1) vector = subst (λ (m : NodeValue). KeepsNone m (moves - 1) vector) is_child not_here in record {
              passed = so.passed ++ card ∷ [];
              split = parts ∙ sym (append_assoc so.passed (card ∷ []) rest);
              none = λ c among keeps. ⊎_elim
                  (λ (before : Contains so.passed c). so.none c before keeps)
                  (λ (last : Contains (card ∷ []) c). ⊎_elim
                  (λ (same : card ≡ c).
                  let at : Keeps bridge n (moves - 1) vector card = subst (λ c. Keeps bridge n (moves - 1) vector c) (sym same) keeps in
                  never at.0 at.1 at.2)
                  (λ (none : Contains [] c). Contains-nil c none)
                  (Contains-cons card [] c last))
                  (Contains-append so.passed (card ∷ []) c among);
            }
