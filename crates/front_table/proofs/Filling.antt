-- A list of vectors that is put into a front, one after another.
use Rattle.std.proofs.Common.{◌≡◌, ℕ, ◌+◌, ◌<◌, List, [], ◌∷◌, ◌++◌, length, refl, sym, subst, ◌∙◌, arith, get_or, take, Contains, AllPairs}
use Rattle.std.proofs.lemmas.List.{get_or-take, length-take, take_more}
use Rattle.win_vectors.specs.Fronts.{Vector, IsReduced, Precedes}
use Rattle.win_vectors.proofs.Orders.{Dominates-refl}
use Rattle.pareto_fronts.specs.FrontValue.{FrontValue}

-- a member of the first few is a member
Contains-take : (k : ℕ) (vs : List Vector) (v : Vector) → Contains (take k vs) v → Contains vs v
Contains-take k vs v (place, within, is) =
    let long = length-take k vs in
    (place, omega arith, sym (get_or-take k vs place v (omega arith)) ∙ is)

AllPairs-take : (k : ℕ) (vs : List Vector) → AllPairs Precedes vs → AllPairs Precedes (take k vs)
AllPairs-take k vs h i j d before within =
    let long = length-take k vs in
    rw (get_or-take k vs i d (omega arith), get_or-take k vs j d (omega arith)) (h i j d before (omega arith))

-- the first few of a list that is its own reduced list are their own
reduced-take : (k : ℕ) (vs : List Vector) → IsReduced vs vs → IsReduced (take k vs) (take k vs)
reduced-take k vs h = record {
  reached = λ v member. member;
  covered = λ v member. (v, member, Dominates-refl v);
  apart = λ u v first second. h.apart u v (Contains-take k vs u first) (Contains-take k vs v second);
  ordered = AllPairs-take k vs h.ordered;
}

-- the first vectors of a list stand in a front that was empty
pub record IsFilled (vectors : List Vector) (old : FrontValue) (done : ℕ) (new : FrontValue) : Type 0 where
  pub first : new.vectors ≡ take done vectors
  pub width : new.width ≡ old.width
  pub room : new.room ≡ old.room

-- with one vector more they are still their own reduced list
pub IsFilled-reduced : (vectors : List Vector) (old : FrontValue) (done : ℕ) (v : Vector) (new : FrontValue) → done < length vectors → v ≡ get_or vectors done v → IsFilled vectors old done new
    → IsReduced vectors vectors → IsReduced (new.vectors ++ v ∷ []) (new.vectors ++ v ∷ [])
IsFilled-reduced vectors old done v new within is h reduced =
    let list : take (done + 1) vectors ≡ new.vectors ++ v ∷ [] = rw (take_more vectors done v within, ← is, h.first) refl in
    subst (λ vs. IsReduced vs vs) list (reduced-take (done + 1) vectors reduced)
