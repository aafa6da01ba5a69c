-- Steps of a join.
use Rattle.std.proofs.Common.{◌≡◌, ℕ, ◌+◌, ◌<◌, List, [], ◌∷◌, ◌++◌, length, map, ap, ◌∙◌, get_or, take}
use Rattle.std.proofs.lemmas.List.{take_more, append_assoc, map-append}
use Rattle.win_vectors.specs.Vectors.{meet_of, spread_of}
use Rattle.win_vectors.specs.Fronts.{Vector, HaveWidth, IsReduced, meets, spreads}
use Rattle.win_vectors.proofs.Reduction.{reduced-push, reduced-of_part, reduced-ignores_order, reduced-nil, meets-push}
use Rattle.pareto_fronts.specs.FrontValue.{FrontValue, IsSoundFront}

-- the images of one more
map-take_more : (h : Vector → Vector) (us : List Vector) (i : ℕ) (u : Vector) → i < length us → u ≡ get_or us i u → map h (take (i + 1) us) ≡ map h (take i us) ++ h u ∷ []
map-take_more h us i u within is = rw (take_more us i u within, ← is) (map-append h (take i us) (u ∷ []))

-- of the vectors of a list, the first were met with a vector and put into a front
pub record Gathers (old : FrontValue) (vectors : List Vector) (vector : Vector) (done : ℕ) (new : FrontValue) : Type 0 where
  pub front : IsSoundFront new
  pub width : new.width ≡ old.width
  pub reduced : IsReduced (old.vectors ++ map (λ u. meet_of u vector) (take done vectors)) new.vectors

pub Gathers-more : (old : FrontValue) (vectors : List Vector) (vector : Vector) (done : ℕ) (u : Vector) (new next : FrontValue) → done < length vectors → u ≡ get_or vectors done u
    → Gathers old vectors vector done new → IsSoundFront next → next.width ≡ new.width → IsReduced (meet_of u vector ∷ new.vectors) next.vectors → Gathers old vectors vector (done + 1) next
Gathers-more old vectors vector done u new next within is h front width reduced = record {
  front = front;
  width = width ∙ h.width;
  reduced =
      rw (map-take_more (λ x. meet_of x vector) vectors done u within is, ← append_assoc)
      (reduced-push (old.vectors ++ map (λ x. meet_of x vector) (take done vectors)) new.vectors next.vectors (meet_of u vector) h.reduced reduced);
}

-- the first vectors of a child were joined
pub record Joins (front child : List Vector) (mask : Vector) (done layouts : ℕ) (best : FrontValue) : Type 0 where
  pub sound : IsSoundFront best
  pub width : best.width ≡ layouts
  pub reduced : IsReduced (meets front (spreads mask (take done child))) best.vectors

pub Joins-more : (front child : List Vector) (mask : Vector) (done width : ℕ) (v : Vector) (best next : FrontValue) → done < length child → v ≡ get_or child done v
    → Joins front child mask done width best → IsSoundFront next → next.width ≡ best.width → IsReduced (best.vectors ++ map (λ u. meet_of u (spread_of v mask)) front) next.vectors
    → Joins front child mask (done + 1) width next
Joins-more front child mask done width v best next within is h sound same reduced =
    let spread = spread_of v mask in
    let before = spreads mask (take done child) in
    let whole = (reduced-of_part (meets front before) best.vectors (map (λ u. meet_of u spread) front) next.vectors h.reduced).0 reduced in
    record {
      sound = sound;
      width = same ∙ h.width;
      reduced =
          rw (map-take_more (λ x. spread_of x mask) child done v within is)
          (reduced-ignores_order (meets front before ++ map (λ u. meet_of u spread) front) (meets front (before ++ spread ∷ [])) next.vectors (meets-push front before spread) whole);
    }

pub Joins-none : (front child : List Vector) (mask : Vector) (width : ℕ) (best : FrontValue) → IsSoundFront best → best.width ≡ width → best.vectors ≡ [] → Joins front child mask 0 width best
Joins-none front child mask width best sound same empty = record {
  sound = sound;
  width = same;
  reduced = rw empty reduced-nil;
}

-- the width of a vector of a list
pub width_at : (width : ℕ) (vs : List Vector) (i : ℕ) (v : Vector) → HaveWidth width vs → i < length vs → v ≡ get_or vs i v → length v ≡ width
width_at width vs i v h within is = ap length is ∙ h i v within
