-- Weights and the report order, in the words of their laws.
use Rattle.std.specs.Prelude.{◌≡◌, ◌⊎◌, ◌≤◌, ℕ, true, false, List, length, replicate, sum}
use Rattle.win_vectors.specs.Vectors.{ones_of, vector_order}
use Rattle.win_vectors.specs.Fronts.{Vector, Dominates}
use Rattle.win_vectors.specs.Weights.{weight_of, report_order, IsReportedBefore, IsMonotone}

-- report order is a strict total order, and a vector stands before those that it dominates
pub record ReportOrderIsTotal : Type 0 where
  pub irreflexive : (ws : List ℕ) (v : Vector) → ¬ IsReportedBefore ws v v
  pub transitive : (ws : List ℕ) (u v w : Vector) → IsReportedBefore ws u v
      → IsReportedBefore ws v w → IsReportedBefore ws u w
  pub total : (ws : List ℕ) (u v : Vector)
      → (u ≡ v) ⊎ (IsReportedBefore ws u v ⊎ IsReportedBefore ws v u)
  pub dominating_first : (ws : List ℕ) (u v : Vector) → Dominates u v
      → (u ≡ v) ⊎ IsReportedBefore ws u v

-- the count of ones and the weight are monotone; no layout weighs 0, all of them the sum of the
-- weights, and nothing weighs more
pub record WeightIsMonotone : Type 0 where
  pub count : IsMonotone ones_of
  pub weight : (ws : List ℕ) → IsMonotone (weight_of ws)
  pub none : (ws : List ℕ) (width : ℕ) → weight_of ws (replicate width false) ≡ 0
  pub each : (ws : List ℕ) → weight_of ws (replicate (length ws) true) ≡ sum ws
  pub most : (ws : List ℕ) (v : Vector) → weight_of ws v ≤ sum ws

-- with weight 1 at each layout the weight is the count of ones, and report order is vector order
pub record EqualWeightsCount : Type 0 where
  pub weight : (v : Vector) → weight_of (replicate (length v) 1) v ≡ ones_of v
  pub order : (u v : Vector) → length u ≡ length v
      → report_order (replicate (length u) 1) u v ≡ vector_order u v
