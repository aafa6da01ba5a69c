-- The vector that a list of vectors recommends.
use Rattle.std.specs.Prelude.{◌≡◌, ◌<◌, ◌≤◌, ℕ, List, Some, slice_get}
use Rattle.win_vectors.specs.Fronts.{Vector}
use Rattle.win_vectors.specs.Weights.{weight_of}

-- the first of the heaviest vectors of a list
pub record IsFirstBest (weights : List ℕ) (front : List Vector) (best : Vector) : Type 0 where
  pub place : ℕ
  pub here : slice_get front place ≡ Some best
  pub heaviest : (other : ℕ) (v : Vector) → slice_get front other ≡ Some v → weight_of weights v ≤ weight_of weights best
  pub first : (other : ℕ) (v : Vector) → other < place → slice_get front other ≡ Some v → weight_of weights v < weight_of weights best
