-- What the fronts of a node's children come to if a defender chooses among the children.
use Rattle.std.specs.Prelude.{◌≡◌, ◌↔◌, ℕ, true, List, [], ◌∷◌, length, map, replicate, All, IsPermutation}
use Rattle.win_vectors.specs.Vectors.{ones_of, restrict_of}
use Rattle.win_vectors.specs.Fronts.{Vector, HaveWidth, Covers, IsReduced, meets, spreads}

-- a child: its front, and a 1 for each layout that it has
pub record Child : Type 0 where
  pub vectors : List Vector
  pub mask : Vector

-- the vectors have a bit for each layout of the child, and the mask for each layout of the node
pub record IsChildOf (width : ℕ) (c : Child) : Type 0 where
  pub for_node : length c.mask ≡ width
  pub for_child : HaveWidth (ones_of c.mask) c.vectors

-- all meets of one spread vector of each child: a layout that no child has counts as 1
abbrev pub joined : ℕ → List Child → List Vector
joined width [] = replicate width true ∷ []
joined width (c ∷ cs) = meets (joined width cs) (spreads c.mask c.vectors)

-- what is covered: a vector, if each child's front covers the part of it that the child has
abbrev pub JoinedCovers : Type 0
JoinedCovers = (width : ℕ) (cs : List Child) (t : Vector) → All (IsChildOf width) cs → length t ≡ width →
    Covers (joined width cs) t ↔ All (λ c. Covers c.vectors (restrict_of t c.mask)) cs

-- the reduced list of a join doesn't depend on the order of the children
abbrev pub JoinedInAnyOrder : Type 0
JoinedInAnyOrder = (width : ℕ) (cs ds : List Child) (front : List Vector) → All (IsChildOf width) cs → IsPermutation cs ds →
    IsReduced (joined width cs) front → IsReduced (joined width ds) front
