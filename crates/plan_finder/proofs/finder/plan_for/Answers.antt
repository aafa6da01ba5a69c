use Rattle.std.proofs.Common.{◌≡◌, Err, ap}
use Rattle.strategy_tree.specs.declared.root_fault.RootFault.TheVariants.{Spent}
use Rattle.plan_finder.proofs.WrittenPlans.{read_chosen}
use Rattle.plan_finder.proofs.finder.plan_for.Goals as goal

pub returns-in-Err-clause-spent : goal.returns-in-Err-clause-spent
returns-in-Err-clause-spent g c = λ card e.
    let fault : c.in-Err.fault ≡ Spent card = cc in
    c.in-Err.ensures.spent card (ap Err fault)

pub returns-in-Ok-read_plan-clause-plan : goal.returns-in-Ok-read_plan-clause-plan
returns-in-Ok-read_plan-clause-plan g c =
    read_chosen c.args.wanted.now.node.now c.args.wanted.now.moves c.args.wanted.now.target.now c.new-out.result c.push_plan.new.self c.bytes.result.now _ c.in-Ok-read_plan.field-0-1 c.position-position.ensures.a_node c.requires.target c.new-out.ensures c.in-Ok.ensures.plan
    c.bytes.ensures c.in-Ok-read_plan.ensures.read
