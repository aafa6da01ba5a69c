-- Where the cards so far are enough.
use Rattle.std.proofs.Common.{◌≡◌, ◌↔◌, ◌∙◌, ◌≤◌, ◌+◌, ◌-◌, ℕ, zero, suc, true, false, Bool, Option, Some, Result, Ok, Err, IsErrAnd, IsErrOf, IsTrue, List, refl, sym, subst, arith, true≢false}
use Rattle.win_vectors.specs.Fronts.{Vector, CoversAll}
use Rattle.pareto_fronts.specs.FrontValue.{FrontValue}
use Rattle.trick_rules.specs.Nodes.{NodeValue, IsNode, child}
use Rattle.strategy_games.specs.Plans.{IsFront, tree_size}
use Rattle.cut_rules.specs.declared.Stop.{Stop}
use Rattle.cut_rules.specs.declared.Stop.TheVariants.{Never, SameFront, SameWeight}
use Rattle.cut_rules.specs.Stops.{IsGreatestWeight}
use Rattle.strategy_tree.specs.Bridge.{bridge}
use Rattle.strategy_tree.proofs.BridgeLaws.{sizes}
use Rattle.strategy_tree.specs.RootTrees.{IsSpentAt}
use Rattle.root_workers.proofs.RootSoFar.{RootSoFar, IsBest, whole_by_front, best_by_front, best_by_weight}

module _ (n : NodeValue) (below : ℕ) (ws : List ℕ) {nodes : ℕ} {plain : Type 0} {cards : List ℕ} {front : FrontValue} {best : Option (ℕ × ℕ)}
    (so : RootSoFar n below ws nodes plain cards front best) (sound : IsNode n) (over : bridge.is_over n ≡ false) (ours : bridge.is_ours n ≡ true)
    (lead : ℕ × ℕ) (is : best ≡ Some lead) (less : List Vector) (stop : Stop) (is_less : (stop ≡ Never → ⊥) → IsFront bridge n below less) (says_so : Bool) (says : says_so ≡ true)
    (never : stop ≡ Never → says_so ≡ false) (covers : stop ≡ SameFront → IsTrue says_so ↔ CoversAll front.vectors less) where
  front_at : (s : Stop) → stop ≡ s → (s ≡ SameWeight → ⊥) → IsFront bridge n (suc below) front.vectors
  front_at Never e other = absurd (true≢false (sym says ∙ never e))
  front_at SameFront e other = whole_by_front n below ws so sound over ours less (is_less (λ f. let no : SameFront ≡ Never = sym e ∙ f in cc)) ((covers e).0 says)
  front_at SameWeight e other = absurd (other refl)

  pub stop_front : (stop ≡ SameWeight → ⊥) → IsFront bridge n (suc below) front.vectors
  stop_front other = front_at stop refl other

  module _ (weighed : stop ≡ SameWeight → IsTrue says_so ↔ IsGreatestWeight ws less lead.1) where
    best_at : (s : Stop) → stop ≡ s → IsBest n below ws (suc below) lead
    best_at Never e = absurd (true≢false (sym says ∙ never e))
    best_at SameFront e = best_by_front n below ws so sound over ours lead is less (is_less (λ f. let no : SameFront ≡ Never = sym e ∙ f in cc)) ((covers e).0 says)
    best_at SameWeight e = best_by_weight n below ws so sound over ours lead is less (is_less (λ f. let no : SameWeight ≡ Never = sym e ∙ f in cc)) ((weighed e).0 says)

    pub stop_best : (moves : ℕ) → suc below ≡ moves → IsBest n below ws moves lead
    stop_best moves steps = subst (λ moves. IsBest n below ws moves lead) steps (best_at stop refl)

-- ---- rounds with fewer moves

sizes_rise : (m : NodeValue) (less more : ℕ) → tree_size bridge m less ≤ tree_size bridge m (less + more)
sizes_rise m less zero = let same : less + 0 ≡ less = omega arith in rw same (omega arith)
sizes_rise m less (suc more) =
    let before : tree_size bridge m less ≤ tree_size bridge m (less + more) = sizes_rise m less more in
    let step : tree_size bridge m (less + more) ≤ tree_size bridge m (suc (less + more)) = sizes.monotone m (less + more) in
    let same : less + suc more ≡ suc (less + more) = omega arith in
    rw same (omega arith)

-- a tree that is too large with fewer moves is too large with more
pub spent_more : (n : NodeValue) (less more nodes card : ℕ) → less ≤ more → IsSpentAt n less nodes card → IsSpentAt n more nodes card
spent_more n less more nodes card fewer spent =
    let rise : tree_size bridge (child n card) (less - 1) ≤ tree_size bridge (child n card) ((less - 1) + ((more - 1) - (less - 1))) = sizes_rise (child n card) (less - 1) ((more - 1) - (less - 1)) in
    let same : (less - 1) + ((more - 1) - (less - 1)) ≡ more - 1 = omega arith in
    let larger : tree_size bridge (child n card) (less - 1) ≤ tree_size bridge (child n card) (more - 1) = subst (λ k. tree_size bridge (child n card) (less - 1) ≤ tree_size bridge (child n card) k) same rise in
    (spent.0, omega (arith, larger, spent.1))

-- the error that `?` passes on
pub passed_on : {T E : Type 0} (result : Result T E) (fault named : E) → IsErrAnd result (λ e. e ≡ fault) → IsErrOf result named → fault ≡ named
passed_on (Ok x) fault named is e = absurd is
passed_on (Err e) fault named is same = sym is ∙ (let inner : e ≡ named = cc in inner)
