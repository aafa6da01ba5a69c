use Rattle.std.proofs.Common.{ap}
use Rattle.strategy_tree.specs.PlanMeaning.{answers_of}
use Rattle.strategy_tree.proofs.Meanings.{plan_of-Hear}
use Rattle.strategy_tree.proofs.plan.+copy.Goals as goal

pub Plan::copy-returns-in_ok-copy_replies-in-Hear :
    goal.Plan::copy-returns-in_ok-copy_replies-in-Hear
Plan::copy-returns-in_ok-copy_replies-in-Hear t c =
    cc (plan_of-Hear c.in_ok-copy_replies-in-Hear.field-0, plan_of-Hear c.in-Hear.replies, ap answers_of c.in_ok-copy_replies-in-Hear.ensures)
