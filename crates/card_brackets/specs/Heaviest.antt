-- The heavier vectors of what is assured at a defender's turn.
use Rattle.std.specs.Prelude.{◌≡◌, ◌<◌, ◌⊎◌, ℕ, List, Contains}
use Rattle.win_vectors.specs.Vectors.{meet_of, spread_of}
use Rattle.win_vectors.specs.Fronts.{Vector, Covers, CoversAll}
use Rattle.win_vectors.specs.Weights.{weight_of}
use Rattle.trick_rules.specs.Nodes.{NodeValue}
use Rattle.strategy_tree.specs.Bridge.{bridge}
use Rattle.assured_games.specs.Assured.{IsAssured}
use Rattle.sure_nodes.specs.SureNodes.{is_sure_node}

-- a front takes in the meets of a vector with each of a list that are heavier than the floor
pub record TakesHeavier (weights : List ℕ) (floor : ℕ) (list : List Vector) (vector : Vector) (old new : List Vector) : Type 0 where
  pub inside : (v : Vector) → Contains new v → Contains old v ⊎ ((u : Vector) × Contains list u × (meet_of u vector ≡ v))
  pub heavy : (u : Vector) → Contains list u → floor < weight_of weights (meet_of u vector) → Covers new (meet_of u vector)
  pub kept : CoversAll new old

-- meets of one vector of a front and one of a child's, which dominate each such meet that is heavier than the floor
pub record AreHeavyMeets (weights : List ℕ) (floor : ℕ) (front : List Vector) (mask : Vector) (child meets : List Vector) : Type 0 where
  pub inside : (v : Vector) → Contains meets v
      → (u w : Vector) × Contains front u × Contains child w × (meet_of u (spread_of w mask) ≡ v)
  pub heavy : (u w : Vector) → Contains front u → Contains child w
      → floor < weight_of weights (meet_of u (spread_of w mask)) → Covers meets (meet_of u (spread_of w mask))

-- assured vectors that dominate each one that is heavier than the floor
pub record AreHeavyAssured (n : NodeValue) (moves : ℕ) (weights : List ℕ) (floor : ℕ) (vectors : List Vector) : Type 0 where
  pub assured : (v : Vector) → Contains vectors v → IsAssured bridge is_sure_node n moves v
  pub heavy : (v : Vector) → IsAssured bridge is_sure_node n moves v → floor < weight_of weights v → Covers vectors v
