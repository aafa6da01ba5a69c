use Rattle.std.proofs.Common.{arith}
use Rattle.dd_solver.proofs.TopTrumps.{few_tricks}
use Rattle.dd_solver.proofs.headed.wanted.Goals as goal

pub overflow_add-tricks_left : goal.overflow_add-tricks_left
overflow_add-tricks_left c = omega (arith, c.tricks_left.ensures.value, few_tricks c.args.position.now c.tricks_left.ensures.sound)
