use Rattle.job_check.proofs.SolvedGood.{solved-good, text-good}
use Rattle.job_check.proofs.laws.solved_reports_are_good.Goals as goal

pub returns-clause-plans : goal.returns-clause-plans
returns-clause-plans c = solved-good

pub returns-clause-text : goal.returns-clause-text
returns-clause-text c = text-good
