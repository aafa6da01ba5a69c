use Rattle.job_check.proofs.PrintedPlans.{plan-wins}
use Rattle.am_top.proofs.laws.printed_plan_wins.Goals as goal

pub returns : goal.returns
returns c = plan-wins
