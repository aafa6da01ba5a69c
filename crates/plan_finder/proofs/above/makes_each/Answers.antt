use Rattle.std.proofs.Common.{◌∙◌, ◌<◌, Some, map, length, ap, sym, arith}
use Rattle.trick_rules.specs.Play.{makes}
use Rattle.trick_rules.specs.Positions.{PositionValue}
use Rattle.trick_rules.specs.Nodes.{NodeValue, states}
use Rattle.alphamu_core.proofs.Judging.{made_there}
use Rattle.plan_finder.proofs.DoubleDummy.{lost_not_above}
use Rattle.plan_finder.proofs.above.makes_each.Goals as goal

pub returns-then-not-makes-clause-lost : goal.returns-then-not-makes-clause-lost
returns-then-not-makes-clause-lost c = λ _.
    let n : NodeValue = c.args.node.now in
    let low : c.loop-place.place < length n.lefts = omega (arith, c.width-place-end.ensures.value, c.loop-place-test.true) in
    let there = made_there n.position n.lefts c.loop-place.place c.left.result low c.left.ensures in
    let same = c.makes.ensures.answer ∙ ap (λ (t : PositionValue). makes (record { position = t; left = c.left.result })) c.position.ensures.value in
    lost_not_above (map (λ s. makes s) (states n)) c.args.target.now c.loop-place.place (c.get.ensures ∙ ap (λ b. Some b) c.if-get.true) (there ∙ sym same ∙ c.if-not-makes.true)
