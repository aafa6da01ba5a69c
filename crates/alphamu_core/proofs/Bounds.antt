-- The front of a node and its fronts with fewer moves.
use Rattle.std.proofs.Common.{◌≡◌, ◌∙◌, ◌+◌, ◌-◌, ℕ, zero, suc, true, false, Option, None, Some, IfSome, List, [], ◌∷◌, Contains, length, map, replicate, refl, sym, ap, subst, true≢false, arith, zero-add}
use Rattle.win_vectors.specs.Vectors.{ones_of}
use Rattle.win_vectors.specs.Fronts.{Vector, Dominates, Covers, CoversAll, IsFrontOf, IsReduced}
use Rattle.pareto_fronts.specs.FrontValue.{FrontValue}
use Rattle.trick_rules.specs.Play.{makes}
use Rattle.trick_rules.specs.Nodes.{NodeValue, IsNode, states}
use Rattle.strategy_games.specs.Plans.{stops, IsFront, IsBelow}
use Rattle.strategy_games.proofs.Lists.{Contains-single}
use Rattle.strategy_games.proofs.Vectors.{Dominates-refl}
use Rattle.strategy_games.proofs.Fronts.{front_unique, front_single}
use Rattle.strategy_tree.specs.Bridge.{bridge}
use Rattle.strategy_tree.proofs.BridgeLaws.{recursion, more_moves, cuts}
use Rattle.strategy_tree.proofs.BridgeNodes.{lost}
use Rattle.front_table.specs.Proven.{IsFrontAt}
use Rattle.cut_rules.specs.declared.CutRules.{CutRules}
use Rattle.cut_rules.specs.Rules.{no_cuts}
use Rattle.alphamu_core.specs.Limits.{IsUpperBound, IsReached}
use Rattle.alphamu_core.proofs.Judging.{length-results}
use Rattle.alphamu_core.proofs.OpenNodes.{some_moves}

-- a front is its own reduced list
own_reduced : (Can : Vector → Type 0) (vectors : List Vector) → IsFrontOf Can vectors → IsReduced vectors vectors
own_reduced Can vectors f = record { reached = λ v among. among; covered = λ v among. f.covered v (f.reached v among); apart = f.apart; ordered = f.ordered }

-- the reduced list of a front is that front
pub front_of_reduced : (Can : Vector → Type 0) (vectors reduced : List Vector) → IsFrontOf Can vectors → IsReduced vectors reduced → IsFrontOf Can reduced
front_of_reduced Can vectors reduced f r = subst (λ all. IsFrontOf Can all) (front_unique (Contains vectors) vectors reduced (own_reduced Can vectors f) r) f

-- rules that make a cut are not those of no cut
pub deepens : (rules : CutRules) → rules.deepen ≡ true → rules ≡ no_cuts → ⊥
deepens rules h e = true≢false (sym h ∙ ap (λ (r : CutRules). r.deepen) e)

pub bounds : (rules : CutRules) → rules.bound ≡ true → rules ≡ no_cuts → ⊥
bounds rules h e = true≢false (sym h ∙ ap (λ (r : CutRules). r.bound) e)

pub cuts_early : (rules : CutRules) → rules.early ≡ true → rules ≡ no_cuts → ⊥
cuts_early rules h e = true≢false (sym h ∙ ap (λ (r : CutRules). r.early) e)

-- a vector put into a front with none
pub single : (vector : Vector) (none reduced : List Vector) → none ≡ [] → IsReduced (vector ∷ none) reduced → reduced ≡ vector ∷ []
single vector none reduced empty r =
    front_unique (Contains (vector ∷ [])) reduced (vector ∷ []) (subst (λ vs. IsReduced (vector ∷ vs) reduced) empty r)
    (front_single (Contains (vector ∷ [])) vector (0, omega arith, refl) (λ w among. subst (λ w. Dominates vector w) (Contains-single vector w among) (Dominates-refl vector)))

-- no ones
zeros : (v : Vector) (width : ℕ) → length v ≡ width → ones_of v ≡ 0 → v ≡ replicate width false
zeros [] zero e none = refl
zeros [] (suc width) e none = absurd cc
zeros (b ∷ v) zero e none = absurd cc
zeros (true ∷ v) (suc width) e none = absurd (omega arith)
zeros (false ∷ v) (suc width) e none = ap (λ (v : Vector). false ∷ v) (zeros v width (omega arith) (omega arith))

module _ (n : NodeValue) where
  -- double dummy's results are the front with no moves
  pub front_results : (front : FrontValue) (made : Vector) → made ≡ map (λ s. makes s) (states n) → front.vectors ≡ made ∷ [] → front.width ≡ length made → IsFrontAt n 0 front
  front_results front made results only width = record {
    front = subst (λ vs. IsFront bridge n 0 vs) (sym only) (subst (λ v. IsFront bridge n 0 (v ∷ [])) (sym results) (recursion.at_stop n 0 refl));
    width = width ∙ ap (λ (v : Vector). length v) results ∙ length-results n;
  }

  -- and the front where plans stop
  pub front_stopped : (front : FrontValue) (moves : ℕ) (made : Vector) → stops bridge n moves ≡ true → made ≡ map (λ s. makes s) (states n) → front.vectors ≡ made ∷ [] → front.width ≡ length made → IsFrontAt n moves front
  front_stopped front moves made stop results only width = record {
    front = subst (λ vs. IsFront bridge n moves vs) (sym only) (subst (λ v. IsFront bridge n moves (v ∷ [])) (sym results) (recursion.at_stop n moves stop));
    width = width ∙ ap (λ (v : Vector). length v) results ∙ length-results n;
  }

  module _ (sound : IsNode n) where
    -- what dominates them dominates what is won with more moves
    pub below_results : (moves : ℕ) (alpha : List Vector) → Covers alpha (map (λ s. makes s) (states n)) → IsBelow bridge n moves alpha
    below_results moves alpha covered =
        subst (λ m. IsBelow bridge n m alpha) (zero-add moves)
        (cuts.deeper_by n 0 moves (map (λ s. makes s) (states n) ∷ []) alpha sound (recursion.at_stop n 0 refl)
        (λ v among. subst (λ v. Covers alpha v) (Contains-single _ v among) covered))

    -- where none can be made, none is won
    pub front_lost : (front : FrontValue) (moves : ℕ) (made : Vector) → made ≡ map (λ s. makes s) (states n) → front.vectors ≡ made ∷ [] → front.width ≡ length made → ones_of made ≡ 0 → IsFrontAt n moves front
    front_lost front moves made results only width none =
        let wide : length made ≡ length n.lefts = ap (λ (v : Vector). length v) results ∙ length-results n in
        let all : front.vectors ≡ replicate (length n.lefts) false ∷ [] = only ∙ ap (λ (v : Vector). v ∷ []) (zeros made (length n.lefts) wide none) in
        let now : IsFront bridge n 0 (replicate (length n.lefts) false ∷ []) = subst (λ vs. IsFront bridge n 0 vs) all (front_results front made results only width).front in
        record {
          front = subst (λ vs. IsFront bridge n moves vs) (sym all) (subst (λ m. IsFront bridge n m (replicate (length n.lefts) false ∷ [])) (zero-add moves) (lost n 0 moves sound now));
          width = width ∙ wide;
        }

    -- what covers the front with a move less covers what is won
    pub below_previous : (moves : ℕ) (less alpha : List Vector) → stops bridge n moves ≡ false → IsFront bridge n (moves - 1) less → CoversAll alpha less → IsBelow bridge n moves alpha
    below_previous moves less alpha goes_on front covered =
        subst (λ m. IsBelow bridge n m alpha) (sym (some_moves n moves goes_on)) (cuts.deeper n (moves - 1) less alpha sound front covered)

    -- a front with fewer moves covers the front with any number below
    pub upper_covers : (below : ℕ) (upper : FrontValue) (less : List Vector) → IsUpperBound n (suc below) upper → IsFront bridge n below less → CoversAll upper.vectors less
    upper_covers below upper less bound front =
        let again : bound.fewer + (below - bound.fewer) ≡ below = (let low = bound.below in omega arith) in
        more_moves.fewer n bound.fewer (below - bound.fewer) less upper.vectors sound (subst (λ m. IsFront bridge n m less) (sym again) front) bound.front.front

  -- ---- upper bounds

  pub upper_results : (moves : ℕ) (front : FrontValue) → stops bridge n moves ≡ false → IsFrontAt n 0 front → IsUpperBound n moves front
  upper_results moves front goes_on found = record { fewer = 0; below = (let more = some_moves n moves goes_on in omega arith); front = found }

  pub upper_previous : (moves : ℕ) (front : FrontValue) → stops bridge n moves ≡ false → IsFrontAt n (moves - 1) front → IsUpperBound n moves front
  upper_previous moves front goes_on found = record { fewer = moves - 1; below = (let more = some_moves n moves goes_on in omega arith); front = found }

-- an upper bound is as wide as the node
pub width_of_upper : (n : NodeValue) (moves : ℕ) (upper : Option FrontValue) (width : ℕ) → IfSome upper (IsUpperBound n moves) → width ≡ length n.lefts → IfSome upper (λ upper. upper.width ≡ width)
width_of_upper n moves None width bound e = tt
width_of_upper n moves (Some upper) width bound e = bound.front.width ∙ sym e

-- no bound, none that is reached
pub never_reached : (upper : Option FrontValue) (front : List Vector) → upper ≡ None → IsReached upper front → ⊥
never_reached upper front none reached = subst (λ upper. IsReached upper front) none reached
