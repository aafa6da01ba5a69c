-- A stable sort by weight puts the vectors of a front in report order.
use Rattle.std.proofs.Common.{◌≡◌, ◌∙◌, ◌<◌, ◌≤◌, ◌==◌, ℕ, zero, suc, Bool, true, false, List, [], ◌∷◌, length, get_or, refl, sym, subst, inl, inr, not, ◌&&◌, if◌then◌else◌, arith}
use Rattle.std.specs.List.{All, AllPairs, filter}
use Rattle.std.specs.List.Sorted.{IsPermutation, IsSortedBy, IsStableBy, ties}
use Rattle.std.specs.Cmp.{IsStrictWeakOrder}
use Rattle.std.specs.Ordering.{is_lt, nat_cmp}
use Rattle.std.proofs.lemmas.Bool.{cases_order}
use Rattle.std.proofs.lemmas.Bool.Decides.{nat_tests}
use Rattle.std.proofs.lemmas.Cmp.{nat_cmp_total}
use Rattle.std.proofs.lemmas.List.Elements.{Contains-get_or}
use Rattle.std.proofs.lemmas.List.Kept.{AllPairs-filter}
use Rattle.std.proofs.lemmas.List.Sorted.{All-permutation, IsStrictWeakOrder-flip, ranks_by, sorted_far}
use Rattle.win_vectors.specs.Fronts.{Vector, Precedes}
use Rattle.win_vectors.specs.Weights.{weight_of, IsReportedBefore}
use Rattle.strategy_games.proofs.Fronts.{AllPairs-head, AllPairs-tail}
use Rattle.strategy_games.proofs.Lists.{Contains-filter}

module _ {X : Type 0} (R : X → X → Type 0) (p : X → Bool) where
  kept : (x : X) (xs : List X) → p x ≡ true → filter p (x ∷ xs) ≡ x ∷ filter p xs
  kept x xs passes = rw passes refl

  dropped : (x : X) (xs : List X) → p x ≡ false → filter p (x ∷ xs) ≡ filter p xs
  dropped x xs fails = rw fails refl

  pairs_less : (b : Bool) (x : X) (xs : List X) → p x ≡ b → AllPairs R (filter p (x ∷ xs)) → AllPairs R (filter p xs)
  pairs_less true x xs is pairs = AllPairs-tail R x (filter p xs) (subst (λ (ys : List X). AllPairs R ys) (kept x xs is) pairs)
  pairs_less false x xs is pairs = subst (λ (ys : List X). AllPairs R ys) (dropped x xs is) pairs

  -- two that pass stand in the order of those that are kept
  kept_pair : (xs : List X) (i j : ℕ) (d : X) → AllPairs R (filter p xs) → i < j → j < length xs → p (get_or xs i d) ≡ true → p (get_or xs j d) ≡ true
      → R (get_or xs i d) (get_or xs j d)
  kept_pair [] i j d pairs before within first second = absurd (omega arith)
  kept_pair (x ∷ xs) i zero d pairs before within first second = absurd (omega arith)
  kept_pair (x ∷ xs) zero (suc j) d pairs before within first second =
      AllPairs-head R x (filter p xs) (subst (λ (ys : List X). AllPairs R ys) (kept x xs first) pairs) (get_or xs j d)
      (Contains-filter p xs (get_or xs j d) (Contains-get_or xs j d (omega arith)) second)
  kept_pair (x ∷ xs) (suc i) (suc j) d pairs before within first second =
      kept_pair xs i j d (pairs_less (p x) x xs refl pairs) (omega arith) (omega arith) first second

-- two that tie stand in the order that they had before a stable sort
pub ties_in_order : {X : Type 0} (R : X → X → Type 0) (lt : X → X → Bool) → IsStrictWeakOrder lt → (xs ys : List X) → AllPairs R xs → IsStableBy lt xs ys
    → (i j : ℕ) (d : X) → i < j → j < length ys → lt (get_or ys i d) (get_or ys j d) ≡ false → lt (get_or ys j d) (get_or ys i d) ≡ false
    → R (get_or ys i d) (get_or ys j d)
ties_in_order R lt order xs ys pairs stable i j d before within first second =
    let x = get_or ys i d in
    let itself : lt x x ≡ false = irreflexive lt order x (lt x x) refl in
    kept_pair R (ties lt x) ys i j d (subst (λ (zs : List _). AllPairs R zs) (sym (stable x)) (AllPairs-filter R (ties lt x) xs pairs)) before within
    (both (lt x x) (lt x x) itself itself) (both (lt x (get_or ys j d)) (lt (get_or ys j d) x) first second)
  where
    irreflexive : {X : Type 0} (lt : X → X → Bool) → IsStrictWeakOrder lt → (x : X) (b : Bool) → lt x x ≡ b → lt x x ≡ false
    irreflexive lt order x true is = order.one_way x x is
    irreflexive lt order x false is = is

    both : (a b : Bool) → a ≡ false → b ≡ false → not a && not b ≡ true
    both a b e f = rw (e, f) refl

-- ---- by weight

-- the weight of a vector that has a bit for each layout
abbrev pub weight_in : List ℕ → Vector → ℕ
weight_in ws v = if length ws == length v then weight_of ws v else 0

weight_in-is : (ws : List ℕ) (v : Vector) → length v ≡ length ws → weight_in ws v ≡ weight_of ws v
weight_in-is ws v same = let turned = sym same in grind (arith, nat_tests)

-- the heavier vector is the lesser one
abbrev pub is_heavier : List ℕ → Vector → Vector → Bool
is_heavier ws u v = is_lt (nat_cmp (weight_in ws v) (weight_in ws u))

heavier_orders : (ws : List ℕ) → IsStrictWeakOrder (is_heavier ws)
heavier_orders ws = IsStrictWeakOrder-flip _ (ranks_by nat_cmp_total (weight_in ws))

not_heavier : (ws : List ℕ) (u v : Vector) → is_heavier ws u v ≡ false → weight_in ws u ≤ weight_in ws v
not_heavier ws u v is = from (weight_in ws v) (weight_in ws u) is
  where
    from : (a b : ℕ) → is_lt (nat_cmp a b) ≡ false → b ≤ a
    from a b is = grind (arith, nat_tests)

as_heavy : (ws : List ℕ) (u v : Vector) → weight_in ws u ≡ weight_in ws v → is_heavier ws u v ≡ false
as_heavy ws u v same = from (weight_in ws v) (weight_in ws u) (sym same)
  where
    from : (a b : ℕ) → a ≡ b → is_lt (nat_cmp a b) ≡ false
    from a b same = grind (arith, nat_tests)

heavier_first : (ws : List ℕ) (u v : Vector) → weight_of ws v < weight_of ws u → IsReportedBefore ws u v
heavier_first ws u v more = grind (arith, nat_tests)

preceding_first : (ws : List ℕ) (u v : Vector) → weight_of ws u ≡ weight_of ws v → Precedes u v → IsReportedBefore ws u v
preceding_first ws u v equal before = grind (arith, nat_tests)

-- a stable sort by weight of vectors in order
pub in_report_order : (ws : List ℕ) (xs ys : List Vector) → All (λ v. length v ≡ length ws) xs → AllPairs Precedes xs → IsPermutation xs ys
    → IsSortedBy (is_heavier ws) ys → IsStableBy (is_heavier ws) xs ys → AllPairs (IsReportedBefore ws) ys
in_report_order ws xs ys wide ordered same sorted stable = λ i j d before within.
    let u = get_or ys i d in
    let v = get_or ys j d in
    let widths = All-permutation (λ w. length w ≡ length ws) xs ys same wide in
    let first : weight_in ws u ≡ weight_of ws u = weight_in-is ws u (widths i d (omega arith)) in
    let second : weight_in ws v ≡ weight_of ws v = weight_in-is ws v (widths j d within) in
    let falls : weight_in ws v ≤ weight_in ws u = not_heavier ws v u (sorted_far (is_heavier ws) (heavier_orders ws) ys sorted i j d (omega arith) within) in
    elim (cases_order (weight_of ws u) (weight_of ws v)) [
      | inl equal ↦
          (let tie : weight_in ws u ≡ weight_in ws v = first ∙ equal ∙ sym second in
          preceding_first ws u v equal
          (ties_in_order Precedes (is_heavier ws) (heavier_orders ws) xs ys ordered stable i j d before within (as_heavy ws u v tie) (as_heavy ws v u (sym tie))))
      | inr (inl less) ↦ absurd (omega arith)
      | inr (inr more) ↦ heavier_first ws u v more
    ]
