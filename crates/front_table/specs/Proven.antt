-- A front that is proved to be the front of its node.
use Rattle.std.specs.Prelude.{◌≡◌, ℕ, length}
use Rattle.trick_rules.specs.Nodes.{NodeValue}
use Rattle.pareto_fronts.specs.FrontValue.{FrontValue}
use Rattle.strategy_games.specs.Plans.{IsFront}
use Rattle.strategy_tree.specs.Bridge.{bridge}

-- the front of a node with these moves, with a bit for each of the node's layouts
pub record IsFrontAt (n : NodeValue) (moves : ℕ) (found : FrontValue) : Type 0 where
  pub front : IsFront bridge n moves found.vectors
  pub width : found.width ≡ length n.lefts

-- a node, a number of moves, and a front
pub record ProvenFrontValue : Type 0 where
  pub node : NodeValue
  pub moves : ℕ
  pub front : FrontValue
