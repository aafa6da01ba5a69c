use Rattle.std.proofs.Common.{◌<◌, length}
use Rattle.dd_solver.proofs.memo.shortest_place.Given as goal

abbrev pub invariant-loop-step : goal.invariant-loop-step
invariant-loop-step l = l.best < length l.slots
