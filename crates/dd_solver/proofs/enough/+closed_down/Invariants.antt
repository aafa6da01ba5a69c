use Rattle.std.proofs.Common.{length}
use Rattle.dd_solver.proofs.enough.+closed_down.Given as goal

abbrev pub decreases-closed_down : goal.decreases-closed_down
decreases-closed_down l = length l.cards
