use Rattle.std.proofs.Common.{◌≡◌, length}
use Rattle.alphamu_core.proofs.results.with_first.Given as goal

abbrev pub invariant-loop-place : goal.invariant-loop-place
invariant-loop-place l = length l.ones ≡ length l.fn.mask
