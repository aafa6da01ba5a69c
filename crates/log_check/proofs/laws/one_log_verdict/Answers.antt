use Rattle.log_check.proofs.OneLogVerdict.{one_log_verdict}
use Rattle.log_check.proofs.laws.one_log_verdict.Goals as goal

pub returns : goal.returns
returns c = one_log_verdict
