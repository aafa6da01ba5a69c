use Rattle.std.proofs.Common.{◌≡◌, ◌∙◌, ◌<◌, length, arith, List, map, set, sym, ap, subst}
use Rattle.std.proofs.lemmas.List.{get_or_default}
use Rattle.strategy_tree.specs.PlanMeaning.{plan_of}
use Rattle.told_plans.specs.declared.grouping.Group.{Group}
use Rattle.told_plans.specs.Told.{HasJoined, and_card}
use Rattle.told_plans.specs.ToldMeaning.{group_of}
use Rattle.told_plans.proofs.Found.{none_found, some_found}
use Rattle.told_plans.proofs.Joining.{pass_one, join_one}
use Rattle.told_plans.proofs.grouping.join.Goals as goal

pub returns-in-Some-clause-joined : goal.returns-in-Some-clause-joined
returns-in-Some-clause-joined c =
    let plan = plan_of c.args.plan.now in
    let items = c.loop-place.groups.items in
    let place = c.loop-place.place in
    let g = c.index.result.now in
    let low : place < length items = omega (arith, c.loop-place-test.true, c.len-place-end.ensures, ap (λ (xs : List Group). length xs) c.loop-place.invariant.same) in
    let new : Group = record { cards = c.with-cards.result; plan = c.in-Some.all } in
    let same : c.index-in-Some.result.now ≡ g = c.index-in-Some.ensures ∙ get_or_default items place _ g low ∙ sym c.index.ensures in
    let cards : new.cards ≡ and_card g.cards c.args.card = c.with-cards.ensures.value ∙ ap (λ (x : Group). and_card x.cards c.args.card) same in
    let both = some_found c.in_ok-all.field-0 _ _ c.in-Some.all c.in-Some.is c.in_ok-all.ensures.value in
    subst (λ old. HasJoined c.args.card plan (map group_of old) (map group_of (set items place new))) c.loop-place.invariant.same
    (join_one c.args.card plan items place g new low c.index.ensures cards both c.loop-place.invariant.passed)

pub loop-place-preserved : goal.loop-place-preserved
loop-place-preserved c =
    let differ = none_found c.in_ok-all.field-0 _ _ c.in_default.is c.in_ok-all.ensures.value in
    let low : c.loop-place.place < length c.loop-place.groups.items = omega (arith, c.loop-place-test.true, c.len-place-end.ensures, ap (λ (xs : List Group). length xs) c.loop-place.invariant.same) in
    record {
      same = c.loop-place.invariant.same;
      passed = pass_one c.args.card (plan_of c.args.plan.now) c.loop-place.groups.items c.loop-place.place c.index.result.now low c.index.ensures differ c.loop-place.invariant.passed;
    }
