-- The place of a vector in an ordered list.
use Rattle.std.specs.Prelude.{ℕ, ◌≤◌, List, length, take, drop, All}
use Rattle.win_vectors.specs.Fronts.{Vector, Precedes, Covers}

-- no vector of the list dominates v; this many of them are printed before it, and the others after it
pub record IsPlaceFor (vectors : List Vector) (v : Vector) (place : ℕ) : Type 0 where
  pub within : place ≤ length vectors
  pub before : All (λ u. Precedes u v) (take place vectors)
  pub after : All (λ u. Precedes v u) (drop place vectors)
  pub new : ¬ Covers vectors v
