use Rattle.std.proofs.Common.{◌≡◌, length}
use Rattle.alphamu_core.proofs.results.common.Given as goal

abbrev pub invariant-loop-vector : goal.invariant-loop-vector
invariant-loop-vector l = length l.ones ≡ l.front.width
