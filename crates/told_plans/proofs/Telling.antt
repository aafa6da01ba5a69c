-- The branches of a told plan, one after another.
use Rattle.std.proofs.Common.{◌≡◌, ◌∙◌, ◌≤◌, ℕ, List, [], ◌∷◌, ◌++◌, length, map, All, refl, sym, ap, zero-lt-suc, suc-le-suc, suc, arith}
use Rattle.std.specs.Prelude.{max}
use Rattle.strategy_tree.specs.PlanMeaning.{plan_of}
use Rattle.strategy_tree.specs.PlanText.{levels_of}
use Rattle.told_plans.specs.Told.{Group, IsTold, AreTold}
use Rattle.told_plans.specs.declared.grouping.Group as mem
use Rattle.told_plans.specs.ToldMeaning.{Telling, branches_from, group_of}

-- the levels of the group that has most
abbrev pub most_levels : List Group → ℕ
most_levels [] = 0
most_levels (g ∷ gs) = max (levels_of g.plan) (most_levels gs)

abbrev pub ToldSoFar : List Telling → List Group → Type 0
ToldSoFar tellings groups = AreTold (branches_from tellings) groups

-- one branch more
pub told_more : (ts : List Telling) (gs : List Group) (t : Telling) (g : Group) → t.cards ≡ g.cards → ToldSoFar ts gs → IsTold t.plan g.plan → ToldSoFar (ts ++ t ∷ []) (gs ++ g ∷ [])
told_more [] gs t g cards so_far is =
    let here : g ≡ record { cards = t.cards; plan = g.plan } = ap (λ cs. record { cards = cs; plan = g.plan }) (sym cards) in
    (g.plan, [], ap (λ xs. xs ++ g ∷ []) so_far ∙ ap (λ x. x ∷ []) here, is, refl)
told_more (s ∷ ts) gs t g cards so_far is =
    (so_far.0, so_far.1 ++ g ∷ [], ap (λ xs. xs ++ g ∷ []) so_far.2, so_far.3, told_more ts so_far.1 t g cards so_far.4 is)

-- from a bound of each group
pub most_within : (gs : List mem.Group) (most : ℕ) → All (λ g. levels_of (plan_of g.plan) ≤ most) gs → most_levels (map group_of gs) ≤ most
most_within [] most each = omega arith
most_within (g ∷ gs) most each =
    let here : levels_of (plan_of g.plan) ≤ most = each 0 g (zero-lt-suc (length gs)) in
    let rest = most_within gs most (λ k d below. each (suc k) d (suc-le-suc below)) in
    omega (arith, here, rest)
