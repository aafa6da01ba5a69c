use Rattle.std.proofs.Common.{sym, arith}
use Rattle.am_report.proofs.Versions.{alike_more, apart_at}
use Rattle.am_report.proofs.version.weigh_alike.Goals as goal

pub returns-then-get-ne1 : goal.returns-then-get-ne1
returns-then-get-ne1 c = sym (apart_at c.args.weights.now c.loop-place.place c.get.result c.get.ensures.value (λ same. absurd (omega arith)))

pub loop-place-preserved : goal.loop-place-preserved
loop-place-preserved c = alike_more c.args.weights.now c.loop-place.place c.get.result c.get.ensures.value (omega arith) c.loop-place.invariant
