-- Weights of layouts: what a vector weighs, and the order in which vectors are reported.
use Rattle.std.specs.Prelude.{◌≡◌, ℕ, ◌+◌, ◌≤◌, List, [], ◌∷◌, All, nat_lt, if◌then◌else◌}
use Rattle.std.specs.declared.cmp.Ordering.{Ordering}
use Rattle.std.specs.declared.cmp.Ordering.TheVariants.{Less, Greater}
use Rattle.win_vectors.specs.Vectors.{most_layouts, vector_order}
use Rattle.win_vectors.specs.Fronts.{Vector, Dominates}

-- the sum of the weights at the ones of the vector
abbrev pub weight_of : List ℕ → Vector → ℕ
weight_of [] v = 0
weight_of (w ∷ ws) [] = 0
weight_of (w ∷ ws) (b ∷ v) = (if b then w else 0) + weight_of ws v

-- the greater weight comes first; among equal ones, vector order
abbrev pub report_order : List ℕ → Vector → Vector → Ordering
report_order ws u v = if nat_lt (weight_of ws v) (weight_of ws u) then Less
    else if nat_lt (weight_of ws u) (weight_of ws v) then Greater else vector_order u v

-- u stands before v where vectors are reported
abbrev pub IsReportedBefore : List ℕ → Vector → Vector → Type 0
IsReportedBefore ws u v = report_order ws u v ≡ Less

-- 1 to 1,000,000
pub record IsWeight (w : ℕ) : Type 0 where
  pub low : 1 ≤ w
  pub high : w ≤ 1000000

-- 1 to 256 layouts; each entry is a weight, also those past the last layout
pub record AreWeights (width : ℕ) (weights : List ℕ) : Type 0 where
  pub low : 1 ≤ width
  pub high : width ≤ most_layouts
  pub each : All IsWeight weights

-- a measure of vectors is monotone under dominance: a vector measures at least as much as those
-- that it dominates
abbrev pub IsMonotone : (Vector → ℕ) → Type 0
IsMonotone measure = (u v : Vector) → Dominates u v → measure v ≤ measure u
