use Rattle.std.proofs.Common.{◌≡◌, true, false, get_or, below_more, arith}
use Rattle.alphamu_core.specs.Judging.{makes_at}
use Rattle.plan_finder.proofs.DoubleDummy.{wins_made}
use Rattle.plan_finder.proofs.above.wins_all_made.Goals as goal

pub loop-place-init : goal.loop-place-init
loop-place-init c = λ i low. absurd (omega arith)

pub loop-place-preserved : goal.loop-place-preserved
loop-place-preserved c =
    below_more (λ i. makes_at c.args.node.now i ≡ true → get_or c.args.vector.now i false ≡ true) c.loop-place.place c.loop-place.invariant
    (c.makes_another.ensures c.if-makes_another.false)

pub returns : goal.returns
returns c = λ yes. wins_made c.args.node.now c.args.vector.now c.loop-place.place c.requires (omega (arith, c.width-place-end.ensures.value, c.loop-place-test.false)) c.loop-place.invariant
