-- The vectors of a front as a report lists them.
use Rattle.std.specs.Prelude.{ℕ, List, AllPairs, IsPermutation}
use Rattle.win_vectors.specs.Fronts.{Vector}
use Rattle.win_vectors.specs.Weights.{IsReportedBefore}
use Rattle.trick_rules.specs.Nodes.{NodeValue}
use Rattle.strategy_games.specs.Plans.{IsFront}
use Rattle.strategy_tree.specs.Bridge.{bridge}

-- the vectors of the front, the heavier ones first by these weights, and among equally heavy ones in vector order
pub record IsReportedFront (n : NodeValue) (weights : List ℕ) (moves : ℕ) (vectors : List Vector) : Type 0 where
  pub front : List Vector
  pub is_front : IsFront bridge n moves front
  pub same : IsPermutation front vectors
  pub ordered : AllPairs (IsReportedBefore weights) vectors
