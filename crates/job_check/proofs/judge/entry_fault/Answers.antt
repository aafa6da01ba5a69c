use Rattle.std.proofs.Common.{None, Some, sym, ◌∙◌}
use Rattle.strategy_tree.specs.PlanMeaning.{plan_of}
use Rattle.strategy_check.specs.declared.verdict.Verdict.TheVariants.{Good, OtherVector}
use Rattle.am_answer.specs.declared.status.Place.TheVariants.{Layout}
use Rattle.job_check.proofs.Judged.{entry_fault-verdict, fault_as}
use Rattle.job_check.proofs.judge.entry_fault.Goals as goal

pub returns-in-Good : goal.returns-in-Good
returns-in-Good g c =
    fault_as c.args.node.now c.args.weights.now c.args.moves c.read.inside.weight None _ _ c.entry.view_is _ c.read.view_is
    (entry_fault-verdict c.args.node.now c.args.weights.now c.args.moves (record { entry = record { vector = c.entry.inside.vector; plan = plan_of c.entry.inside.plan }; weight = c.read.inside.weight })
    Good (sym c.width.ensures.value ∙ c.if-width.false ∙ c.width-2.ensures.value) (c.if-read-total.false ∙ c.total.ensures.value) c.in-Good.ensures)

pub returns-in-OtherVector : goal.returns-in-OtherVector
returns-in-OtherVector g c =
    fault_as c.args.node.now c.args.weights.now c.args.moves c.read.inside.weight (Some (Layout c.in-OtherVector.layout c.in-OtherVector.bit)) _ _ c.entry.view_is _ c.read.view_is
    (entry_fault-verdict c.args.node.now c.args.weights.now c.args.moves (record { entry = record { vector = c.entry.inside.vector; plan = plan_of c.entry.inside.plan }; weight = c.read.inside.weight })
    (OtherVector c.in-OtherVector.layout c.in-OtherVector.bit) (sym c.width.ensures.value ∙ c.if-width.false ∙ c.width-2.ensures.value) (c.if-read-total.false ∙ c.total.ensures.value) c.in-OtherVector.ensures)
