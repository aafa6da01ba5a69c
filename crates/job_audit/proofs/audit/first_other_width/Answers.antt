use Rattle.std.proofs.Common.{refl, sym, arith, ◌∙◌}
use Rattle.job_audit.proofs.Widths.{width_later, width_end}
use Rattle.job_audit.proofs.audit.first_other_width.Goals as goal

pub loop-index-init : goal.loop-index-init
loop-index-init c = refl

pub loop-index-preserved : goal.loop-index-preserved
loop-index-preserved c =
    c.loop-index.invariant
    ∙ width_later c.args.width c.args.vectors.now c.loop-index.index c.index-vectors-index.result c.loop-index-test.true c.index-vectors-index.is (sym c.width.ensures.value ∙ c.if-width.false)

pub returns : goal.returns
returns c =
    sym (c.loop-index.invariant ∙ width_end c.args.width c.args.vectors.now c.loop-index.index (omega (arith, c.loop-index-test.false)))
