-- The widths of a front's vectors.
use Rattle.std.proofs.Common.{◌≡◌, ℕ, List, Some, length, All, subst}
use Rattle.std.specs.Prelude.{slice_get}
use Rattle.std.proofs.lemmas.List.Elements.{All-get_or}
use Rattle.std.proofs.lemmas.Option.{get_or_from_slice_get, slice_get_within}
use Rattle.win_vectors.specs.Fronts.{Vector, HaveWidth}

-- each vector has the width of all
pub width_at : (width : ℕ) (front : List Vector) (place : ℕ) (v : Vector) → HaveWidth width front → slice_get front place ≡ Some v → length v ≡ width
width_at width front place v wide is =
    subst (λ u. length u ≡ width) (get_or_from_slice_get front place v v is)
    (All-get_or (λ u. length u ≡ width) front place v (slice_get_within front place v is) wide)
