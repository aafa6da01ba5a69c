-- A join in the making, as contracts see it.
use Rattle.std.specs.Prelude.{◌≡◌, ◌≤◌, length}
use Rattle.win_vectors.specs.Fronts.{Vector}
use Rattle.pareto_fronts.specs.FrontValue.{FrontValue, IsSoundFront}

-- the front of the children that were added, and a 1 for each layout that one of them has
pub record JoinerValue : Type 0 where
  pub optimistic : FrontValue
  pub covered : Vector

-- the front isn't empty, and both are of one width
pub record IsJoiner (j : JoinerValue) : Type 0 where
  pub front : IsSoundFront j.optimistic
  pub not_empty : 1 ≤ length j.optimistic.vectors
  pub width : length j.covered ≡ j.optimistic.width
