-- What vectors weigh, and the order of a report.
use Rattle.std.proofs.Common.{◌≡◌, ◌⊎◌, ◌<◌, ◌≤◌, ℕ, zero, suc, ◌+◌, Bool, true, false, List, [], ◌∷◌, Some, length, take, get_or, slice_get, replicate, sum, refl, sym, inl, inr, if◌then◌else◌, arith}
use Rattle.std.proofs.lemmas.Bool.{cases_order}
use Rattle.std.proofs.lemmas.List.Sums.{sum_by-cons}
use Rattle.std.proofs.lemmas.Bool.Decides.{nat_tests}
use Rattle.win_vectors.specs.Vectors.{ones_of, vector_order}
use Rattle.win_vectors.specs.Fronts.{Vector, Dominates, Precedes}
use Rattle.win_vectors.specs.Weights.{weight_of, report_order, IsReportedBefore, IsMonotone}
use Rattle.win_vectors.proofs.Orders.{Precedes-irrefl, Precedes-trans, Precedes-cases, Dominates-precedes}

-- a place more adds its weight where it has a one
pub weight_of-take : (k : ℕ) (ws : List ℕ) (v : Vector) (b : Bool) → k < length ws → slice_get v k ≡ Some b → weight_of (take (suc k) ws) (take (suc k) v) ≡ weight_of (take k ws) (take k v) + (if b then get_or ws k 0 else 0)
weight_of-take k [] v b within at = absurd (omega arith)
weight_of-take zero (w ∷ ws) [] b within at = absurd cc
weight_of-take (suc k) (w ∷ ws) [] b within at = absurd cc
weight_of-take zero (w ∷ ws) (a ∷ v) b within at = let same : a ≡ b = cc in rw same (omega arith)
weight_of-take (suc k) (w ∷ ws) (a ∷ v) b within at = let rest = weight_of-take k ws v b (omega arith) at in omega arith

-- ---- monotone measures

pub ones_of-monotone : IsMonotone ones_of
ones_of-monotone [] [] h = omega arith
ones_of-monotone [] (b ∷ v) h = absurd h
ones_of-monotone (a ∷ u) [] h = absurd h
ones_of-monotone (true ∷ u) (true ∷ v) h = let rest = ones_of-monotone u v h.1 in omega arith
ones_of-monotone (true ∷ u) (false ∷ v) h = let rest = ones_of-monotone u v h.1 in omega arith
ones_of-monotone (false ∷ u) (true ∷ v) h = absurd h.0
ones_of-monotone (false ∷ u) (false ∷ v) h = let rest = ones_of-monotone u v h.1 in omega arith

pub weight_of-monotone : (ws : List ℕ) → IsMonotone (weight_of ws)
weight_of-monotone [] u v h = omega arith
weight_of-monotone (w ∷ ws) [] [] h = omega arith
weight_of-monotone (w ∷ ws) [] (b ∷ v) h = absurd h
weight_of-monotone (w ∷ ws) (a ∷ u) [] h = absurd h
weight_of-monotone (w ∷ ws) (true ∷ u) (true ∷ v) h = let rest = weight_of-monotone ws u v h.1 in omega arith
weight_of-monotone (w ∷ ws) (true ∷ u) (false ∷ v) h = let rest = weight_of-monotone ws u v h.1 in omega arith
weight_of-monotone (w ∷ ws) (false ∷ u) (true ∷ v) h = absurd h.0
weight_of-monotone (w ∷ ws) (false ∷ u) (false ∷ v) h = let rest = weight_of-monotone ws u v h.1 in omega arith

pub weight_of-none : (ws : List ℕ) (width : ℕ) → weight_of ws (replicate width false) ≡ 0
weight_of-none [] width = refl
weight_of-none (w ∷ ws) zero = refl
weight_of-none (w ∷ ws) (suc width) = let rest = weight_of-none ws width in omega arith

sum-cons : (w : ℕ) (ws : List ℕ) → sum (w ∷ ws) ≡ w + sum ws
sum-cons w ws = sum_by-cons (λ x. x) w ws

pub weight_of-each : (ws : List ℕ) → weight_of ws (replicate (length ws) true) ≡ sum ws
weight_of-each [] = refl
weight_of-each (w ∷ ws) = let rest = weight_of-each ws in let sums = sum-cons w ws in omega arith

pub weight_of-most : (ws : List ℕ) (v : Vector) → weight_of ws v ≤ sum ws
weight_of-most [] v = omega arith
weight_of-most (w ∷ ws) [] = omega arith
weight_of-most (w ∷ ws) (true ∷ v) = let rest = weight_of-most ws v in let sums = sum-cons w ws in omega arith
weight_of-most (w ∷ ws) (false ∷ v) = let rest = weight_of-most ws v in let sums = sum-cons w ws in omega arith

-- ---- the order of a report

-- more weight, or as much and first in the order of vectors
ComesFirst : List ℕ → Vector → Vector → Type 0
ComesFirst ws u v = (weight_of ws v < weight_of ws u) ⊎ ((weight_of ws u ≡ weight_of ws v) × Precedes u v)

first-from : (ws : List ℕ) (u v : Vector) → IsReportedBefore ws u v → ComesFirst ws u v
unfolding ComesFirst
first-from ws u v h = elim (cases_order (weight_of ws u) (weight_of ws v)) [
  | inl same ↦ inr (same, grind (arith, nat_tests))
  | inr (inl less) ↦ absurd (grind (arith, nat_tests))
  | inr (inr more) ↦ inl more
]

first-to : (ws : List ℕ) (u v : Vector) → ComesFirst ws u v → IsReportedBefore ws u v
unfolding ComesFirst
first-to ws u v h = elim h [
  | inl more ↦ grind (arith, nat_tests)
  | inr same ↦ (let equal = same.0 in let before = same.1 in grind (arith, nat_tests))
]

pub report-irrefl : (ws : List ℕ) (v : Vector) → IsReportedBefore ws v v → ⊥
unfolding ComesFirst
report-irrefl ws v h = elim (first-from ws v v h) [ inl more ↦ omega arith | inr same ↦ Precedes-irrefl v same.1 ]

pub report-trans : (ws : List ℕ) (u v w : Vector) → IsReportedBefore ws u v → IsReportedBefore ws v w → IsReportedBefore ws u w
unfolding ComesFirst
report-trans ws u v w p q = first-to ws u w (
    elim (first-from ws u v p) [
      | inl more ↦ elim (first-from ws v w q) [ inl more' ↦ inl (omega arith) | inr same ↦ inl (omega arith) ]
      | inr same ↦ elim (first-from ws v w q) [ inl more ↦ inl (omega arith) | inr same' ↦ inr (omega arith, Precedes-trans u v w same.1 same'.1) ]
    ])

pub report-cases : (ws : List ℕ) (u v : Vector) → (u ≡ v) ⊎ (IsReportedBefore ws u v ⊎ IsReportedBefore ws v u)
unfolding ComesFirst
report-cases ws u v =
    elim (cases_order (weight_of ws u) (weight_of ws v)) [
      | inl same ↦ elim (Precedes-cases u v) [
        | inl e ↦ inl e
        | inr (inl before) ↦ inr (inl (first-to ws u v (inr (same, before))))
        | inr (inr after) ↦ inr (inr (first-to ws v u (inr (sym same, after))))
      ]
      | inr (inl less) ↦ inr (inr (first-to ws v u (inl less)))
      | inr (inr more) ↦ inr (inl (first-to ws u v (inl more)))
    ]

pub report-dominating_first : (ws : List ℕ) (u v : Vector) → Dominates u v → (u ≡ v) ⊎ IsReportedBefore ws u v
unfolding ComesFirst
report-dominating_first ws u v d =
    let most = weight_of-monotone ws u v d in
    elim (Dominates-precedes u v d) [
      | inl e ↦ inl e
      | inr before ↦ elim (cases_order (weight_of ws u) (weight_of ws v)) [
        | inl same ↦ inr (first-to ws u v (inr (same, before)))
        | inr (inl less) ↦ absurd (omega arith)
        | inr (inr more) ↦ inr (first-to ws u v (inl more))
      ]
    ]

-- ---- equal weights

pub weight_of-equal : (v : Vector) → weight_of (replicate (length v) 1) v ≡ ones_of v
weight_of-equal [] = refl
weight_of-equal (true ∷ v) = let rest = weight_of-equal v in omega arith
weight_of-equal (false ∷ v) = let rest = weight_of-equal v in omega arith

pub report_order-equal : (u v : Vector) → length u ≡ length v → report_order (replicate (length u) 1) u v ≡ vector_order u v
report_order-equal u v e =
    let other : weight_of (replicate (length u) 1) v ≡ ones_of v = rw e (weight_of-equal v) in
    rw (weight_of-equal u, other) (grind (arith, nat_tests))
