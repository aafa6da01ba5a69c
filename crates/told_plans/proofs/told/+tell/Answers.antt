use Rattle.std.proofs.Common.{◌≡◌, ◌∙◌, ◌+◌, ◌++◌, ◌∷◌, [], map, take, refl, sym, ap, subst, arith}
use Rattle.std.proofs.lemmas.List.{map-append, take_more}
use Rattle.strategy_games.specs.Plans.{Hear}
use Rattle.strategy_tree.specs.PlanMeaning.{plan_of, replies_of}
use Rattle.strategy_tree.specs.PlanText.{levels_of, levels_below}
use Rattle.strategy_tree.proofs.Meanings.{plan_of-Hear}
use Rattle.told_plans.specs.declared.grouping.Group.{Group}
use Rattle.told_plans.specs.declared.told.Branch.{Branch}
use Rattle.told_plans.specs.ToldMeaning.{telling_of, group_of}
use Rattle.told_plans.proofs.Joining.{from_here}
use Rattle.told_plans.proofs.Telling.{most_levels, most_within, ToldSoFar, told_more}
use Rattle.told_plans.proofs.told.+tell.Goals as goal

pub tell-tell_each-requires : goal.tell-tell_each-requires
tell-tell_each-requires t c =
    let is = ap plan_of c.in-Hear.is ∙ plan_of-Hear c.in-Hear.replies ∙ ap (λ rs. Hear (replies_of rs)) (sym c.deref-in-Hear.ensures.value) in
    let below = most_within c.in_ok-groups-in-Hear.groups.items (levels_below (replies_of c.deref-in-Hear.result.now)) c.in_ok-groups-in-Hear.ensures.levels in
    let same = ap (λ gs. most_levels (map group_of gs)) c.deref-in-Hear-2.ensures.value in
    (omega (arith, ap levels_of is, below, same, c.decreases), tt)

pub tell_each-loop-group-preserved : goal.tell_each-loop-group-preserved
tell_each-loop-group-preserved t c =
    let groups = c.args.groups.now in
    let i = c.loop-group.group-index in
    let g = c.group-item.result in
    let b : Branch = record { cards = g.cards; plan = c.in_ok-plan.plan } in
    let next = from_here groups i g c.loop-group-test.true c.group-item.is in
    let branches : map telling_of c.push.new.self.items ≡ map telling_of c.loop-group.branches.items ++ telling_of b ∷ [] = ap (map telling_of) c.in_ok-push.ensures.items ∙ map-append telling_of c.loop-group.branches.items (b ∷ []) in
    let done : map group_of (take (i + 1) groups) ≡ map group_of (take i groups) ++ group_of g ∷ [] =
    ap (map group_of) (take_more groups i g c.loop-group-test.true ∙ ap (λ (x : Group). take i groups ++ x ∷ []) (sym c.group-item.is)) ∙ map-append group_of (take i groups) (g ∷ []) in
    record {
      told = subst (λ ts. ToldSoFar ts (map group_of (take (i + 1) groups))) (sym branches)
          (subst (λ gs. ToldSoFar (map telling_of c.loop-group.branches.items ++ telling_of b ∷ []) gs) (sym done)
          (told_more (map telling_of c.loop-group.branches.items) (map group_of (take i groups)) (telling_of b) (group_of g) refl c.loop-group.invariant.told c.in_ok-plan.ensures));
      fewer = omega (arith, ap most_levels next, c.loop-group.invariant.fewer);
    }
