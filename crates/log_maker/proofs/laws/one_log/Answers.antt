use Rattle.log_maker.proofs.OneLog.{one_log}
use Rattle.log_maker.proofs.laws.one_log.Goals as goal

pub returns : goal.returns
returns c = one_log
