use Rattle.std.proofs.Common.{length}
use Rattle.layout_draw.proofs.walk.Progress.+walk.Given as goal

abbrev pub decreases-walk : goal.decreases-walk
decreases-walk l = length l.free
