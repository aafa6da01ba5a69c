-- A reply joins the groups in memory.
use Rattle.std.proofs.Common.{◌≡◌, ◌∙◌, ◌≤◌, ◌<◌, ◌+◌, ℕ, suc, List, [], ◌∷◌, ◌++◌, map, take, drop, set, length, get_or, refl, sym, ap, ap₂, subst, inl, inr, append_assoc, arith}
use Rattle.std.proofs.Math.Seq.{drop-cons}
use Rattle.std.proofs.lemmas.List.{take_more, take_all, drop_all, set_split}
use Rattle.strategy_games.specs.Plans.{Plan}
use Rattle.strategy_tree.specs.PlanMeaning.{plan_of}
use Rattle.told_plans.specs.Follows.{Agree, IsBoth}
use Rattle.told_plans.specs.Told as told
use Rattle.told_plans.specs.Told.{HasJoined, and_card}
use Rattle.told_plans.specs.declared.grouping.Group.{Group}
use Rattle.told_plans.specs.ToldMeaning.{group_of}

-- what joins the groups from a place on joins all
abbrev pub Passed : ℕ → Plan ℕ → List Group → ℕ → Type 0
Passed card plan groups place = (after : List told.Group) → HasJoined card plan (map group_of (drop place groups)) after → HasJoined card plan (map group_of groups) (map group_of (take place groups) ++ after)

pub from_here : (groups : List Group) (place : ℕ) (g : Group) → place < length groups → g ≡ get_or groups place g → map group_of (drop place groups) ≡ group_of g ∷ map group_of (drop (place + 1) groups)
from_here groups place g low is =
    let next : drop place groups ≡ g ∷ drop (place + 1) groups = drop-cons groups place g low ∙ ap (λ x. x ∷ drop (suc place) groups) (sym is) ∙ ap (λ j. g ∷ drop j groups) one_more in
    ap (map group_of) next
  where
    one_more : suc place ≡ place + 1
    one_more = omega arith

map_append : (xs ys : List Group) → map group_of (xs ++ ys) ≡ map group_of xs ++ map group_of ys
map_append [] ys = refl
map_append (x ∷ xs) ys = ap (λ zs. group_of x ∷ zs) (map_append xs ys)

-- the group at the place differs
pub pass_one : (card : ℕ) (plan : Plan ℕ) (groups : List Group) (place : ℕ) (g : Group) → place < length groups → g ≡ get_or groups place g → (Agree (plan_of g.plan) plan → ⊥) → Passed card plan groups place → Passed card plan groups (place + 1)
pass_one card plan groups place g low is differ passed after h =
    let here = from_here groups place g low is in
    let joined : HasJoined card plan (map group_of (drop place groups)) (group_of g ∷ after) = subst (λ gs. HasJoined card plan gs (group_of g ∷ after)) (sym here) (inr (differ, (after, h, refl))) in
    let end : map group_of (take place groups) ++ group_of g ∷ after ≡ map group_of (take (place + 1) groups) ++ after =
    sym (append_assoc (map group_of (take place groups)) (group_of g ∷ []) after) ∙ ap (λ xs. xs ++ after) (sym (map_append (take place groups) (g ∷ [])) ∙ ap (map group_of) (ap (λ x. take place groups ++ x ∷ []) is ∙ sym (take_more groups place g low))) in
    subst (λ gs. HasJoined card plan (map group_of groups) gs) end (passed (group_of g ∷ after) joined)

set_at : (xs : List Group) (i : ℕ) (v : Group) → i < length xs → set xs i v ≡ take i xs ++ v ∷ drop (i + 1) xs
set_at xs i v low = set_split xs i v low ∙ ap (λ j. take i xs ++ v ∷ drop j xs) one_more
  where
    one_more : suc i ≡ i + 1
    one_more = omega arith

-- the group at the place is joined
pub join_one : (card : ℕ) (plan : Plan ℕ) (groups : List Group) (place : ℕ) (g new : Group) → place < length groups → g ≡ get_or groups place g → new.cards ≡ and_card g.cards card → IsBoth (plan_of g.plan) plan (plan_of new.plan)
    → Passed card plan groups place → HasJoined card plan (map group_of groups) (map group_of (set groups place new))
join_one card plan groups place g new low is cards both passed =
    let here = from_here groups place g low is in
    let after : List told.Group = group_of new ∷ map group_of (drop (place + 1) groups) in
    let joined : HasJoined card plan (map group_of (drop place groups)) after =
    subst (λ gs. HasJoined card plan gs after) (sym here) (inl (plan_of new.plan, both, ap (λ (cs : List ℕ). record { cards = cs; plan = plan_of new.plan } ∷ map group_of (drop (place + 1) groups)) cards)) in
    let end : map group_of (take place groups) ++ after ≡ map group_of (set groups place new) = sym (map_append (take place groups) (new ∷ drop (place + 1) groups)) ∙ ap (map group_of) (sym (set_at groups place new low)) in
    subst (λ gs. HasJoined card plan (map group_of groups) gs) end (passed after joined)

-- no group is joined
pub join_new : (card : ℕ) (plan : Plan ℕ) (groups : List Group) (place : ℕ) (new : Group) → length groups ≤ place → new.cards ≡ and_card [] card → plan_of new.plan ≡ plan → Passed card plan groups place
    → HasJoined card plan (map group_of groups) (map group_of (groups ++ new ∷ []))
join_new card plan groups place new past cards is passed =
    let none : map group_of (drop place groups) ≡ [] = ap (map group_of) (drop_all place groups past) in
    let whole : map group_of (take place groups) ++ group_of new ∷ [] ≡ map group_of (groups ++ new ∷ []) = ap (λ xs. map group_of xs ++ group_of new ∷ []) (take_all place groups past) ∙ sym (map_append groups (new ∷ [])) in
    let here : group_of new ∷ [] ≡ record { cards = and_card [] card; plan = plan } ∷ [] = ap₂ (λ (cs : List ℕ) (p : Plan ℕ). record { cards = cs; plan = p } ∷ []) cards is in
    let joined : HasJoined card plan (map group_of (drop place groups)) (group_of new ∷ []) = subst (λ gs. HasJoined card plan gs (group_of new ∷ [])) (sym none) here in
    subst (λ gs. HasJoined card plan (map group_of groups) gs) whole (passed (group_of new ∷ []) joined)
