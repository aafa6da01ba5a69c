use Rattle.log_check.proofs.ValidLogs.{valid_log_covers}
use Rattle.log_check.proofs.laws.valid_log_covers.Goals as goal

pub returns : goal.returns
returns c = valid_log_covers
