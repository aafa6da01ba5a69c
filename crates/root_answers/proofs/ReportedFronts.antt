-- The vectors of a front in report order.
use Rattle.std.proofs.Common.{◌≡◌, ◌∙◌, ℕ, ◌≤◌, ◌<◌, Result, Ok, Err, List, [], ◌∷◌, length, get_or, All, refl, sym, subst, arith}
use Rattle.std.specs.Prelude.{IfOk}
use Rattle.std.specs.List.{AllPairs}
use Rattle.std.specs.List.Sorted.{IsPermutation}
use Rattle.std.proofs.lemmas.List.Elements.{All-get_or, Contains-get_or}
use Rattle.std.proofs.lemmas.List.Sorted.{Contains-permutation, IsPermutation-sym, length_permutation}
use Rattle.trick_rules.specs.Nodes.{NodeValue, IsNode}
use Rattle.win_vectors.specs.Fronts.{Vector}
use Rattle.win_vectors.specs.Weights.{IsReportedBefore}
use Rattle.strategy_games.specs.Plans.{IsFront}
use Rattle.strategy_tree.specs.Bridge.{bridge}
use Rattle.strategy_tree.proofs.BridgeLaws as laws
use Rattle.strategy_tree.proofs.BridgeNodes.{length-states}
use Rattle.plan_finder.specs.Targets.{IsOfFront}
use Rattle.am_answer.specs.ReportOrder.{IsReportedFront}

some_vectors : (vectors : List Vector) → (vectors ≡ [] → ⊥) → 1 ≤ length vectors
some_vectors [] filled = absurd (filled refl)
some_vectors (vector ∷ vectors) filled = omega arith

module _ (n : NodeValue) (weights : List ℕ) (moves : ℕ) where
  -- each vector of a front has a bit for each weight
  pub front_wide : (vectors : List Vector) → length weights ≡ length n.lefts → IsFront bridge n moves vectors → All (λ v. length v ≡ length weights) vectors
  front_wide vectors weighed is = λ k d inside. laws.one_front.wide n moves vectors is k d inside ∙ length-states n ∙ sym weighed

  -- the vectors of a front in report order
  pub reported_from : {A E : Type 0} (items : A → List Vector) (front ordered : List Vector) (result : Result A E) → ordered ≡ front → IsFront bridge n moves front
      → IfOk result (λ a. IsPermutation ordered (items a)) → IfOk result (λ a. AllPairs (IsReportedBefore weights) (items a)) → IfOk result (λ a. IsReportedFront n weights moves (items a))
  reported_from items front ordered (Ok a) whole is same reported = record { front = ordered; is_front = subst (IsFront bridge n moves) (sym whole) is; same = same; ordered = reported }
  reported_from items front ordered (Err e) whole is same reported = tt

  -- a front has a vector
  pub reported_filled : (vectors : List Vector) → IsNode n → IsReportedFront n weights moves vectors → 1 ≤ length vectors
  reported_filled vectors node is =
      let some = some_vectors is.front (laws.one_front.filled n moves is.front node is.is_front) in
      omega (arith, some, length_permutation is.front vectors is.same)

  -- each vector is one of the front
  pub reported_of_front : (vectors : List Vector) → IsReportedFront n weights moves vectors → All (λ v. IsOfFront n moves v) vectors
  reported_of_front vectors is = λ k d inside. (
    is.front,
    is.is_front,
    Contains-permutation vectors is.front (get_or vectors k d) (IsPermutation-sym is.front vectors is.same) (Contains-get_or vectors k d inside),
  )

  -- what is asked of their plans
  pub targets : (vectors slice : List Vector) → slice ≡ vectors → IsReportedFront n weights moves vectors → All (λ v. IsOfFront n moves v) slice
  targets vectors slice same is = subst (λ (vs : List Vector). All (λ v. IsOfFront n moves v) vs) (sym same) (reported_of_front vectors is)

pub target_here : (n : NodeValue) (moves : ℕ) (vectors : List Vector) (i : ℕ) (vector : Vector) → All (λ v. IsOfFront n moves v) vectors → i < length vectors → vector ≡ get_or vectors i vector → IsOfFront n moves vector
target_here n moves vectors i vector all inside is = subst (λ (v : Vector). IsOfFront n moves v) (sym is) (All-get_or (λ v. IsOfFront n moves v) vectors i vector inside all)
