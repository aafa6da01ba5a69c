use Rattle.std.proofs.Common.{refl, sym, arith, ◌∙◌}
use Rattle.job_check.proofs.Judged.{first_plan_fault-found, first_plan_fault-later, first_plan_fault-end}
use Rattle.job_check.proofs.judge.first_plan_fault.Goals as goal

pub loop-index-init : goal.loop-index-init
loop-index-init g c = refl

pub returns-in-Some : goal.returns-in-Some
returns-in-Some g c =
    sym (c.loop-index.invariant
    ∙ first_plan_fault-found c.args.node.now c.args.weights.now c.args.moves c.args.entries.now c.loop-index.index c.index-entries-index.result c.loop-index-test.true c.index-entries-index.is c.in-Some.place (sym c.entry_fault.ensures ∙ c.in-Some.is))

pub loop-index-preserved : goal.loop-index-preserved
loop-index-preserved g c =
    c.loop-index.invariant
    ∙ first_plan_fault-later c.args.node.now c.args.weights.now c.args.moves c.args.entries.now c.loop-index.index c.index-entries-index.result c.loop-index-test.true c.index-entries-index.is (sym c.entry_fault.ensures ∙ c.in_default.is)

pub returns : goal.returns
returns g c =
    sym (c.loop-index.invariant ∙ first_plan_fault-end c.args.node.now c.args.weights.now c.args.moves c.args.entries.now c.loop-index.index (omega (arith, c.loop-index-test.false)))
