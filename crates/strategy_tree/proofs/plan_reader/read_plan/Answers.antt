use Rattle.strategy_tree.specs.PlanRead.{plan_read}
use Rattle.strategy_tree.proofs.plan_reader.read_plan.Goals as goal

pub returns-clause-read : goal.returns-clause-read
unfolding plan_read
returns-clause-read c = c.read_node.ensures.read

pub returns-clause-fault : goal.returns-clause-fault
unfolding plan_read
returns-clause-fault c = c.read_node.ensures.fault
