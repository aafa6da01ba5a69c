-- A front, as contracts see it.
use Rattle.std.specs.Prelude.{◌≡◌, ℕ, ◌+◌, ◌≤◌, List, length}
use Rattle.win_vectors.specs.Vectors.{most_layouts}
use Rattle.win_vectors.specs.Fronts.{Vector, HaveWidth, IsReduced}

-- the number of layouts, the vectors in order, and how many vectors fit without memory, those that are there included
pub record FrontValue : Type 0 where
  pub width : ℕ
  pub vectors : List Vector
  pub room : ℕ

-- this many vectors more fit without memory
abbrev pub HasSpareRoom : FrontValue → ℕ → Type 0
HasSpareRoom f more = length f.vectors + more ≤ f.room

-- the vectors are of one width, and are their own reduced list: in order, none dominates another
pub record IsSoundFront (f : FrontValue) : Type 0 where
  pub low : 1 ≤ f.width
  pub high : f.width ≤ most_layouts
  pub one_width : HaveWidth f.width f.vectors
  pub reduced : IsReduced f.vectors f.vectors

-- the two fronts have the same layouts and the same vectors
pub record HaveSameVectors (f g : FrontValue) : Type 0 where
  pub width : g.width ≡ f.width
  pub vectors : g.vectors ≡ f.vectors
