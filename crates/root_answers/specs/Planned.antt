-- Vectors of a front with their plans.
use Rattle.std.specs.Prelude.{◌≡◌, ℕ, List, map, All}
use Rattle.win_vectors.specs.Fronts.{Vector}
use Rattle.trick_rules.specs.Nodes.{NodeValue}
use Rattle.strategy_games.specs.Choosing.{IsChosenPlan}
use Rattle.strategy_tree.specs.Bridge.{bridge}
use Rattle.am_report.specs.Answers.{EntryValue}

-- these vectors in order, each with the plan that is chosen for it
pub record ArePlanned (n : NodeValue) (moves : ℕ) (vectors : List Vector) (entries : List EntryValue) : Type 0 where
  pub listed : map (λ e. e.vector) entries ≡ vectors
  pub plans : All (λ e. IsChosenPlan bridge e.plan n moves e.vector) entries
