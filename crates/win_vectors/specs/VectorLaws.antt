-- Dominance, the printing order, meets and masks, in the words of their laws.
use Rattle.std.specs.Prelude.{◌≡◌, ◌⊎◌, ◌↔◌, length}
use Rattle.win_vectors.specs.Vectors.{ones_of, meet_of, restrict_of, spread_of}
use Rattle.win_vectors.specs.Fronts.{Vector, Dominates, Precedes}

-- dominance is a partial order
pub record DominanceIsPartialOrder : Type 0 where
  pub reflexive : (v : Vector) → Dominates v v
  pub transitive : (u v w : Vector) → Dominates u v → Dominates v w → Dominates u w
  pub antisymmetric : (u v : Vector) → Dominates u v → Dominates v u → u ≡ v

-- the printing order is a strict total order, and a vector stands before those that it dominates
pub record PrintingOrderIsTotal : Type 0 where
  pub irreflexive : (v : Vector) → ¬ Precedes v v
  pub transitive : (u v w : Vector) → Precedes u v → Precedes v w → Precedes u w
  pub total : (u v : Vector) → (u ≡ v) ⊎ (Precedes u v ⊎ Precedes v u)
  pub dominating_first : (u v : Vector) → Dominates u v → (u ≡ v) ⊎ Precedes u v

-- the meet of two vectors of one width is the greatest vector that both dominate
pub record MeetIsGreatest : Type 0 where
  pub first : (u v : Vector) → length u ≡ length v → Dominates u (meet_of u v)
  pub second : (u v : Vector) → length u ≡ length v → Dominates v (meet_of u v)
  pub greatest : (u v w : Vector) → Dominates u w → Dominates v w → Dominates (meet_of u v) w

-- to spread and to restrict by one mask: the second undoes the first, and a spread vector dominates another if the
-- vector itself dominates what the mask picks of it
pub record SpreadUndoesRestrict : Type 0 where
  pub restricted : (v mask : Vector) → length v ≡ ones_of mask → restrict_of (spread_of v mask) mask ≡ v
  pub dominates : (u v mask : Vector) → length u ≡ ones_of mask → length v ≡ length mask →
      Dominates (spread_of u mask) v ↔ Dominates u (restrict_of v mask)
