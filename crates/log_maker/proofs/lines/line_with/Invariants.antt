use Rattle.std.proofs.Common.{◌≡◌, take}
use Rattle.log_maker.proofs.lines.line_with.Given as goal

abbrev pub invariant-loop-vector : goal.invariant-loop-vector
invariant-loop-vector l = l.vectors ≡ take l.vector-index l.front.vectors
