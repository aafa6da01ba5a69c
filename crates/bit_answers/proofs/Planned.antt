-- The plan that is chosen for the vector at a place of the front.
use Rattle.std.proofs.Common.{◌≡◌, ◌∙◌, ℕ, ◌<◌, List, length, get_or, Contains, sym, ap, subst}
use Rattle.std.specs.Prelude.{Some, slice_get}
use Rattle.std.proofs.lemmas.Option.{slice_get-get_or}
use Rattle.std.proofs.lemmas.List.Elements.{Contains-get_or}
use Rattle.win_vectors.specs.Fronts.{Vector, Covers}
use Rattle.win_vectors.proofs.Orders.{Dominates-refl}
use Rattle.trick_rules.specs.Nodes.{NodeValue, IsNode}
use Rattle.pareto_fronts.specs.FrontValue.{FrontValue}
use Rattle.strategy_games.specs.Plans.{Plan}
use Rattle.strategy_games.specs.Choosing.{IsChosenPlan}
use Rattle.strategy_tree.specs.Bridge.{bridge}
use Rattle.strategy_tree.proofs.BridgeLaws.{chosen_plan}
use Rattle.front_table.specs.Proven.{IsFrontAt}
use Rattle.plan_finder.specs.Targets.{IsOfFront}
use Rattle.bit_answers.specs.Strategies.{IsStrategyFor}

module _ (n : NodeValue) (moves place : ℕ) (front : FrontValue) (slice : List Vector) (vector : Vector)
    (is : IsFrontAt n moves front) (same : slice ≡ front.vectors) (inside : place < length slice) (here : vector ≡ get_or slice place vector) where
  member : Contains front.vectors vector
  member = subst (λ (vs : List Vector). Contains vs vector) same (subst (λ v. Contains slice v) (sym here) (Contains-get_or slice place vector inside))

  -- it is one of the front
  pub target : IsOfFront n moves vector
  target = (front.vectors, is.front, member)

  there : slice_get front.vectors place ≡ Some vector
  there = subst (λ (vs : List Vector). slice_get vs place ≡ Some vector) same (slice_get-get_or slice place vector inside ∙ ap Some (sym here))

  -- and the plan that is chosen for it wins exactly this vector
  pub strategy_for : (plan : Plan ℕ) → IsNode n → IsChosenPlan bridge plan n moves vector → IsStrategyFor n moves place plan
  strategy_for plan sound chosen =
      let covered : Covers front.vectors vector = (vector, member, Dominates-refl vector) in
      let won = chosen_plan.wins plan n moves vector front.vectors sound is.front covered chosen in
      record {
        front = front.vectors;
        is_front = is.front;
        vector = vector;
        here = there;
        fits = won.0;
        wins = is.front.apart _ vector won.1.member member won.1.above;
        chosen = chosen;
      }
