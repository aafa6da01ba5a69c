use Rattle.log_check.proofs.ValidLogs.{sound_line_covers}
use Rattle.log_check.proofs.laws.sound_line_covers.Goals as goal

pub returns : goal.returns
returns c = sound_line_covers
