use Rattle.std.proofs.Common.{◌≡◌, ◌∙◌, ◌≤◌, Some, length, sym, ap, arith}
use Rattle.std.specs.List.{slice_get}
use Rattle.trick_rules.specs.Positions.{PositionValue}
use Rattle.strategy_games.specs.Plans.{wins, wins_vector}
use Rattle.strategy_tree.specs.Bridge.{bridge}
use Rattle.strategy_tree.specs.PlanMeaning.{plan_of}
use Rattle.strategy_check.proofs.Compared.{follow_from, own_bit, length-wins_vector, same_more, same_all, differ_here, unlike, alike, fits_from}
use Rattle.strategy_check.proofs.verdict.check_by.Goals as goal

pub wins_by-bit-requires : goal.wins_by-bit-requires
wins_by-bit-requires g c =
    let plan = plan_of c.args.plan.now in
    let fits = fits_from plan c.args.node.now c.of.result c.args.moves c.in_default.field-0 c.of.ensures c.in_default.ensures in
    rw c.position.ensures.value (follow_from plan c.args.node.now c.args.moves c.loop-place.place c.left.result c.position.ensures.a_node fits c.left.ensures)

pub returns-then-bit-get : goal.returns-then-bit-get
returns-then-bit-get g c =
    let plan = plan_of c.args.plan.now in
    let place = c.loop-place.place in
    let bit = c.wins_by-bit.result in
    let fits = fits_from plan c.args.node.now c.of.result c.args.moves c.in_default.field-0 c.of.ensures c.in_default.ensures in
    let is = c.wins_by-bit.ensures ∙ ap (λ (t : PositionValue). wins bridge plan (record { position = t; left = c.left.result })) c.position.ensures.value in
    let own : slice_get (wins_vector bridge plan c.args.node.now) place ≡ Some bit = own_bit plan c.args.node.now place c.left.result c.left.ensures ∙ ap (λ b. Some b) (sym is) in
    let given = c.get.ensures ∙ ap (λ b. Some b) (unlike bit c.get.result c.if-bit-get.true) in
    (fits, differ_here (wins_vector bridge plan c.args.node.now) c.args.vector.now place bit own given c.loop-place.invariant)

pub loop-place-preserved : goal.loop-place-preserved
loop-place-preserved g c =
    let plan = plan_of c.args.plan.now in
    let place = c.loop-place.place in
    let bit = c.wins_by-bit.result in
    let is = c.wins_by-bit.ensures ∙ ap (λ (t : PositionValue). wins bridge plan (record { position = t; left = c.left.result })) c.position.ensures.value in
    let own : slice_get (wins_vector bridge plan c.args.node.now) place ≡ Some bit = own_bit plan c.args.node.now place c.left.result c.left.ensures ∙ ap (λ b. Some b) (sym is) in
    let given = c.get.ensures ∙ ap (λ b. Some b) (alike bit c.get.result c.if-bit-get.false) in
    same_more (wins_vector bridge plan c.args.node.now) c.args.vector.now place bit own given c.loop-place.invariant

pub returns : goal.returns
returns g c =
    let plan = plan_of c.args.plan.now in
    let place = c.loop-place.place in
    let own = wins_vector bridge plan c.args.node.now in
    let past : length c.args.node.now.lefts ≤ place = omega (arith, c.width-place-end.ensures.value, c.loop-place-test.false) in
    let long_own : length own ≤ place = omega (arith, past, length-wins_vector plan c.args.node.now) in
    let long_given : length c.args.vector.now ≤ place = omega (arith, past, c.requires.same_width) in
    (fits_from plan c.args.node.now c.of.result c.args.moves c.in_default.field-0 c.of.ensures c.in_default.ensures, same_all own c.args.vector.now place long_own long_given c.loop-place.invariant)
