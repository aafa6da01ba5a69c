-- Why a plan isn't found.
use Rattle.std.specs.Prelude.{◌≡◌, ◌-◌, ◌<◌, ◌≤◌, ℕ, false, Contains}
use Rattle.win_vectors.specs.Fronts.{Vector}
use Rattle.trick_rules.specs.Nodes.{NodeValue, choices, child}
use Rattle.strategy_games.specs.Plans.{Plan, Play, stops, tree_size}
use Rattle.strategy_games.specs.Choosing.{IsChosenPlan}
use Rattle.strategy_tree.specs.Bridge.{bridge}

-- a card of a node whose plan isn't `Stop`: the tree after it has more nodes than this, and it doesn't come after the card that the plan begins with
pub record IsPlanSpentAt (n : NodeValue) (moves : ℕ) (target : Vector) (nodes card : ℕ) : Type 0 where
  pub goes_on : stops bridge n moves ≡ false
  pub choice : Contains (choices n) card
  pub larger : nodes < tree_size bridge (child n card) (moves - 1)
  pub not_after : (first : ℕ) (rest : Plan ℕ) → IsChosenPlan bridge (Play first rest) n moves target → card ≤ first
