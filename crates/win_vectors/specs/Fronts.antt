-- Win vectors, and the front of a set of them.
use Rattle.std.specs.Prelude.{◌≡◌, ◌⊎◌, ◌++◌, ℕ, Bool, true, false, ⊤, List, [], ◌∷◌, length, map, All, AllPairs, Contains}
use Rattle.std.specs.List.{AllZip}
use Rattle.std.specs.declared.cmp.Ordering.TheVariants.{Less}
use Rattle.win_vectors.specs.Vectors.{vector_order, meet_of, spread_of}

-- one bit for each layout: is it made?
abbrev pub Vector : Type 0
Vector = List Bool

-- all vectors of a list have this many layouts
abbrev pub HaveWidth : ℕ → List Vector → Type 0
HaveWidth width vs = All (λ v. length v ≡ width) vs

-- 1 is at least anything, 0 at least 0
abbrev pub IsAtLeast : Bool → Bool → Type 0
IsAtLeast true b = ⊤
IsAtLeast false false = ⊤
IsAtLeast false true = ⊥

-- u and v have equal length, and u is at least v at each layout
abbrev pub Dominates : Vector → Vector → Type 0
Dominates u v = AllZip IsAtLeast u v

-- u comes before v in a list of vectors: it has more ones, or as many and a 1 at the first layout at which the two differ
abbrev pub Precedes : Vector → Vector → Type 0
Precedes u v = vector_order u v ≡ Less

-- some vector of the list dominates v
abbrev pub Covers : List Vector → Vector → Type 0
Covers front v = (u : Vector) × Contains front u × Dominates u v

-- each vector of the other list is dominated
abbrev pub CoversAll : List Vector → List Vector → Type 0
CoversAll front other = (v : Vector) → Contains other v → Covers front v

-- the list is the front of a set of vectors: its members are in the set, each vector of the set is dominated by one of them,
-- no one dominates another, and they are in order
pub record IsFrontOf (Can : Vector → Type 0) (front : List Vector) : Type 0 where
  pub reached : (v : Vector) → Contains front v → Can v
  pub covered : (v : Vector) → Can v → Covers front v
  pub apart : (u v : Vector) → Contains front u → Contains front v → Dominates u v → u ≡ v
  pub ordered : AllPairs Precedes front

-- the front of the vectors of a list
abbrev pub IsReduced : List Vector → List Vector → Type 0
IsReduced all front = IsFrontOf (Contains all) front

-- all meets of one vector of each list
abbrev pub meets : List Vector → List Vector → List Vector
meets f [] = []
meets f (v ∷ g) = map (λ u. meet_of u v) f ++ meets f g

-- each vector put at the ones of the mask, with 1 at its zeros
abbrev pub spreads : Vector → List Vector → List Vector
spreads mask vectors = map (λ v. spread_of v mask) vectors

-- u is the first vector of the list that dominates t
pub record IsFirstAbove (front : List Vector) (t u : Vector) : Type 0 where
  pub member : Contains front u
  pub above : Dominates u t
  pub first : (w : Vector) → Contains front w → Dominates w t → (u ≡ w) ⊎ Precedes u w
