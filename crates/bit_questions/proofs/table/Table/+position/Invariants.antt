use Rattle.std.proofs.Common.{length}
use Rattle.bit_questions.proofs.table.Table.+position.Given as goal

abbrev pub decreases-position : goal.decreases-position
decreases-position l = length l.trick.now
