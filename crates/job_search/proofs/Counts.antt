-- With weight 1 at each layout the best weight is the best count.
use Rattle.std.proofs.Common.{◌≡◌, ◌∙◌, ◌≤◌, ℕ, true, length, replicate, sym, ap, subst, arith}
use Rattle.std.proofs.lemmas.List.{length-map}
use Rattle.win_vectors.specs.Vectors.{most_layouts}
use Rattle.win_vectors.specs.Fronts.{Vector}
use Rattle.win_vectors.proofs.VectorLemmas.{ones_of-le}
use Rattle.trick_rules.specs.Nodes.{NodeValue, IsNode, states}
use Rattle.strategy_games.specs.Choosing.{IsBestCount, IsNamedCard, IsBestWeight, IsNamedByWeight}
use Rattle.strategy_games.specs.Laws.{HasBestWeight}
use Rattle.strategy_games.proofs.WeightedChoice as theory_of_weights
use Rattle.strategy_tree.specs.Bridge.{bridge}
use Rattle.strategy_tree.proofs.Rules.{lawful, settled}
use Rattle.strategy_tree.proofs.BridgeNodes.{length-states}

best_weight : HasBestWeight bridge IsNode
best_weight = theory_of_weights.best_weight bridge IsNode lawful settled

module _ (n : NodeValue) (moves : ℕ) where
  pub count_is : (weight : ℕ) → IsBestWeight bridge (replicate (length n.lefts) 1) n moves weight → IsBestCount bridge n moves weight
  count_is weight best = (best_weight.equal n moves weight).0 (subst (λ width. IsBestWeight bridge (replicate width 1) n moves weight) (sym (length-states n)) best)

  pub card_is : (card : ℕ) → IsNode n → bridge.is_ours n ≡ true → IsNamedByWeight bridge (replicate (length n.lefts) 1) n moves card → IsNamedCard bridge n moves card
  card_is card sound ours named = (best_weight.equal_card n moves card sound ours).0 (subst (λ width. IsNamedByWeight bridge (replicate width 1) n moves card) (sym (length-states n)) named)

  -- it is no more than there are layouts
  pub count_small : (weight : ℕ) → IsNode n → IsBestWeight bridge (replicate (length n.lefts) 1) n moves weight → weight ≤ most_layouts
  count_small weight sound best =
      let has = (count_is weight best).0 in
      let won = has.1.reached has.2 has.3 in
      let width : length has.2 ≡ length (states n) = ap (λ (v : Vector). length v) (sym won.2) ∙ length-map (states n) _ in
      omega (arith, ones_of-le has.2, has.4, width, length-states n, sound.few)
