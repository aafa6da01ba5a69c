use Rattle.strategy_tree.specs.PlanMeaning.{plan_of}
use Rattle.bit_answers.proofs.Planned.{strategy_for}
use Rattle.bit_answers.proofs.strategies.plan_at.Goals as goal

pub returns-clause-plan : goal.returns-clause-plan
returns-clause-plan c =
    strategy_for c.args.asked.now.node c.args.asked.now.moves c.args.place c.in_ok-front.front c.as_slice.result.now c.in-Some.vector.now
    c.in_ok-front.ensures.front c.as_slice.ensures.value c.in-Some.ensures.lookup.3.0 c.in-Some.ensures.lookup.1
    (plan_of c.in_ok-found.found.plan) c.width-width.ensures.a_node c.in_ok-found.ensures.plan
