use Rattle.log_check.proofs.Alike.{sound-alike_both, valid-alike_both}
use Rattle.log_check.proofs.laws.dominated_vectors_change_nothing.Goals as goal

pub returns-clause-line : goal.returns-clause-line
returns-clause-line c = sound-alike_both

pub returns-clause-log : goal.returns-clause-log
returns-clause-log c = valid-alike_both
