use Rattle.log_maker.proofs.NodeLogs.{log_for_is_valid, log_for_is_accepted}
use Rattle.log_maker.proofs.laws.log_of_a_node_is_valid.Goals as goal

pub returns-clause-valid : goal.returns-clause-valid
returns-clause-valid c = log_for_is_valid

pub returns-clause-verdict : goal.returns-clause-verdict
returns-clause-verdict c = log_for_is_accepted
