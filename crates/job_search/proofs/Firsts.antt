-- The first vector that is printed of a front.
use Rattle.std.proofs.Common.{◌≡◌, ◌≤◌, ℕ, List, [], ◌∷◌, get_or, length, arith, sym, subst}
use Rattle.trick_rules.specs.Nodes.{NodeValue, IsNode}
use Rattle.win_vectors.specs.Fronts.{Vector}
use Rattle.strategy_games.specs.Plans.{Plan}
use Rattle.strategy_games.specs.Choosing.{IsChosenPlan}
use Rattle.strategy_tree.specs.Bridge.{bridge}
use Rattle.plan_finder.specs.Targets.{IsOfFront}
use Rattle.am_answer.specs.Matches.{IsFirstStrategy}
use Rattle.am_answer.specs.ReportOrder.{IsReportedFront}
use Rattle.root_answers.proofs.ReportedFronts.{reported_filled, reported_of_front, target_here}

module _ (n : NodeValue) (weights : List ℕ) (moves : ℕ) where
  -- it is one of the front
  pub first_target : (vectors : List Vector) (vector : Vector) → IsNode n → IsReportedFront n weights moves vectors → vector ≡ get_or vectors 0 vector → IsOfFront n moves vector
  first_target vectors vector node is here =
      let filled = reported_filled n weights moves vectors node is in
      target_here n moves vectors 0 vector (reported_of_front n weights moves vectors is) (omega (arith, filled)) here

  -- with its plan it is the first strategy
  pub first_chosen : (vectors : List Vector) (vector : Vector) (plan : Plan ℕ) → IsReportedFront n weights moves vectors → 1 ≤ length vectors → vector ≡ get_or vectors 0 vector
      → IsChosenPlan bridge plan n moves vector → IsFirstStrategy n weights moves vector plan
  first_chosen [] vector plan is filled here chosen = absurd (omega (arith, filled))
  first_chosen (first ∷ others) vector plan is filled here chosen =
      let same : vector ≡ first = here in record {
        others = others;
        reported = subst (λ (v : Vector). IsReportedFront n weights moves (v ∷ others)) (sym same) is;
        chosen = chosen;
      }
