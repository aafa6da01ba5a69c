-- What the reduced list of a list of vectors is, said in other ways, and what it keeps.
use Rattle.std.specs.Prelude.{◌≡◌, ◌↔◌, ◌++◌, List, AllPairs, Contains}
use Rattle.win_vectors.specs.Fronts.{Vector, Dominates, Precedes, Covers, IsReduced, meets}

-- v is of the list, and no other vector of the list dominates it
pub record IsBest (all : List Vector) (v : Vector) : Type 0 where
  pub member : Contains all v
  pub best : (u : Vector) → Contains all u → Dominates u v → u ≡ v

-- the best vectors of a list and no others, each once, in printing order
pub record ListsTheBest (all front : List Vector) : Type 0 where
  pub the_best : (v : Vector) → Contains front v ↔ IsBest all v
  pub ordered : AllPairs Precedes front

-- the two lists have the same vectors
abbrev pub SameMembers : List Vector → List Vector → Type 0
SameMembers xs ys = (v : Vector) → Contains xs v ↔ Contains ys v

-- the two lists cover the same vectors
abbrev pub CoverTheSame : List Vector → List Vector → Type 0
CoverTheSame xs ys = (v : Vector) → Covers xs v ↔ Covers ys v

-- no vector of the list dominates another, they are in order, and they cover what the other list covers
pub record IsOrderedCover (all front : List Vector) : Type 0 where
  pub apart : (u v : Vector) → Contains front u → Contains front v → Dominates u v → u ≡ v
  pub ordered : AllPairs Precedes front
  pub same : CoverTheSame front all

-- every list has a reduced list
abbrev pub ReducedExists : Type 0
ReducedExists = (all : List Vector) → (front : List Vector) × IsReduced all front

-- and only one
abbrev pub ReducedIsUnique : Type 0
ReducedIsUnique = (all f g : List Vector) → IsReduced all f → IsReduced all g → f ≡ g

-- it lists the best vectors
abbrev pub ReducedListsTheBest : Type 0
ReducedListsTheBest = (all front : List Vector) → IsReduced all front ↔ ListsTheBest all front

-- it is the only ordered list, with no vector that dominates another, that covers what the list covers
abbrev pub ReducedIsTheCover : Type 0
ReducedIsTheCover = (all front : List Vector) → IsReduced all front ↔ IsOrderedCover all front

-- it doesn't depend on the order of the list, nor on how often a vector is in it
abbrev pub ReducedIgnoresOrder : Type 0
ReducedIgnoresOrder = (xs ys front : List Vector) → SameMembers xs ys → IsReduced xs front → IsReduced ys front

-- a part of the list may be reduced first
abbrev pub ReducedOfReducedPart : Type 0
ReducedOfReducedPart = (xs part ys front : List Vector) → IsReduced xs part → IsReduced (part ++ ys) front ↔ IsReduced (xs ++ ys) front

-- two lists may be reduced before they are met
abbrev pub ReducedOfMeets : Type 0
ReducedOfMeets = (xs f ys g front : List Vector) → IsReduced xs f → IsReduced ys g → IsReduced (meets f g) front ↔ IsReduced (meets xs ys) front

-- a list is its own reduced list if it is the reduced list of something
abbrev pub ReducedIsItsOwn : Type 0
ReducedIsItsOwn = (all front : List Vector) → IsReduced all front → IsReduced front front
