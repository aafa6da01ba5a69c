use Rattle.std.proofs.Common.{◌≡◌, ◌∙◌, ◌<◌, ◌≤◌, ◌+◌, ℕ, List, true, length, get_or, sym, ap, subst, arith, rules}
use Rattle.std.proofs.lemmas.Option.{get_or_from_slice_get}
use Rattle.double_dummy.proofs.LayoutResults.{one_more_result}
use Rattle.win_vectors.specs.Fronts.{Vector}
use Rattle.trick_rules.specs.Nodes.{states}
use Rattle.strategy_tree.specs.PlanMeaning.{plan_of}
use Rattle.told_layouts.specs.Behind.{AreThose}
use Rattle.told_layouts.specs.Looking.{somewhere, reached}
use Rattle.told_layouts.specs.Places.{CanReach}
use Rattle.told_layouts.proofs.Behind.{upto_all, reached_are_behind}
use Rattle.told_layouts.proofs.steps.reached_at.Goals as goal

pub loop-place-preserved : goal.loop-place-preserved
loop-place-preserved c =
    let n = c.args.node.now in
    let plan = plan_of c.args.plan.now in
    let sets = c.args.sets.now in
    let place = c.loop-place.place in
    let left = c.left.result in
    let low : place < length n.lefts = search rules in
    one_more_result (λ left. somewhere (λ rest place. true) sets plan (record { position = n.position; left = left })) n.lefts place left c.reaches-can_reach.result c.loop-place.reached c.set-reached.result low c.left.ensures
    c.loop-place.invariant (c.reaches-can_reach.ensures ∙ ap (λ t. somewhere (λ rest place. true) sets plan (record { position = t; left = left })) c.position.ensures.value) c.set-reached.ensures

pub returns-clause-value : goal.returns-clause-value
unfolding reached
returns-clause-value c =
    let n = c.args.node.now in
    let plan = plan_of c.args.plan.now in
    let place = c.loop-place.place in
    let all : length n.lefts ≤ place = omega arith in
    c.loop-place.invariant ∙ upto_all (λ s. somewhere (λ rest place. true) c.args.sets.now plan s) n.position n.lefts place all

pub returns-clause-those : goal.returns-clause-those
returns-clause-those c =
    let n = c.args.node.now in
    let plan = plan_of c.args.plan.now in
    subst (λ bits. AreThose (λ s. CanReach c.args.sets.now plan s) (states n) bits) (sym (returns-clause-value c))
    (reached_are_behind plan n c.requires.0 c.args.sets.now c.width-width.ensures.a_node c.requires.1)
