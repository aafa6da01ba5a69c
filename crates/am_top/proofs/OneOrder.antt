-- There is one order for the vectors of a front in a report.
use Rattle.std.proofs.Common.{◌≡◌, ⊎_elim, ℕ, List, [], ◌∷◌, Contains, refl, sym, ap₂, subst, ◌∙◌}
use Rattle.std.specs.List.{AllPairs}
use Rattle.std.proofs.lemmas.List.Sorted.{Contains-permutation, IsPermutation-sym}
use Rattle.win_vectors.specs.Fronts.{Vector}
use Rattle.win_vectors.specs.Weights.{IsReportedBefore}
use Rattle.win_vectors.proofs.WeightLemmas.{report-irrefl, report-trans}
use Rattle.trick_rules.specs.Nodes.{NodeValue}
use Rattle.strategy_games.proofs.Fronts.{AllPairs-head, AllPairs-tail}
use Rattle.strategy_games.proofs.Lists.{Contains-here, Contains-there, Contains-nil, Contains-cons}
use Rattle.strategy_tree.proofs.BridgeLaws as laws
use Rattle.am_answer.specs.ReportOrder.{IsReportedFront}

-- each member of the one list is a member of the other
abbrev IsWithin : {X : Type 0} → List X → List X → Type 0
IsWithin {X} xs ys = (x : X) → Contains xs x → Contains ys x

module _ {X : Type 0} (R : X → X → Type 0) (irreflexive : (x : X) → R x x → ⊥) (transitive : (x y z : X) → R x y → R y z → R x z) where
  same_first : (x : X) (xs : List X) (y : X) (ys : List X) → AllPairs R (x ∷ xs) → AllPairs R (y ∷ ys) → IsWithin (x ∷ xs) (y ∷ ys) → IsWithin (y ∷ ys) (x ∷ xs) → x ≡ y
  same_first x xs y ys first second there back =
      ⊎_elim
      (λ (same : y ≡ x). sym same)
      (λ (later : Contains ys x). ⊎_elim
      (λ (same : x ≡ y). same)
      (λ (after : Contains xs y). absurd (irreflexive x (transitive x y x (AllPairs-head R x xs first y after) (AllPairs-head R y ys second x later))))
      (Contains-cons x xs y (back y (Contains-here y ys))))
      (Contains-cons y ys x (there x (Contains-here x xs)))

  same_later : (x : X) (xs : List X) (y : X) (ys : List X) → x ≡ y → AllPairs R (x ∷ xs) → IsWithin (x ∷ xs) (y ∷ ys) → IsWithin xs ys
  same_later x xs y ys same first there z among =
      ⊎_elim
      (λ (is : y ≡ z). absurd (irreflexive z (subst (λ w. R w z) (same ∙ is) (AllPairs-head R x xs first z among))))
      (λ (later : Contains ys z). later)
      (Contains-cons y ys z (there z (Contains-there x xs z among)))

  -- two lists in one strict order with the same members are the same
  same_ordered : (xs ys : List X) → AllPairs R xs → AllPairs R ys → IsWithin xs ys → IsWithin ys xs → xs ≡ ys
  same_ordered [] [] first second there back = refl
  same_ordered [] (y ∷ ys) first second there back = absurd (Contains-nil y (back y (Contains-here y ys)))
  same_ordered (x ∷ xs) [] first second there back = absurd (Contains-nil x (there x (Contains-here x xs)))
  same_ordered (x ∷ xs) (y ∷ ys) first second there back =
      let same = same_first x xs y ys first second there back in
      ap₂ (λ (z : X) zs. z ∷ zs) same
      (same_ordered xs ys (AllPairs-tail R x xs first) (AllPairs-tail R y ys second) (same_later x xs y ys same first there) (same_later y ys x xs (sym same) second back))

-- a front is reported in one way
pub one_reported_front : (n : NodeValue) (weights : List ℕ) (moves : ℕ) (vectors others : List Vector) → IsReportedFront n weights moves vectors → IsReportedFront n weights moves others → vectors ≡ others
one_reported_front n weights moves vectors others is also =
    let front : is.front ≡ also.front = laws.one_front.unique n moves is.front also.front is.is_front also.is_front in
    same_ordered (IsReportedBefore weights) (report-irrefl weights) (report-trans weights) vectors others is.ordered also.ordered
    (λ v among. Contains-permutation also.front others v also.same (subst (λ (f : List Vector). Contains f v) front (Contains-permutation vectors is.front v (IsPermutation-sym is.front vectors is.same) among)))
    (λ v among. Contains-permutation is.front vectors v is.same (subst (λ (f : List Vector). Contains f v) (sym front) (Contains-permutation others also.front v (IsPermutation-sym also.front others also.same) among)))
