use Rattle.std.proofs.Common.{◌≡◌, take}
use Rattle.log_check.proofs.best.same_path.Given as goal

abbrev pub invariant-loop-place : goal.invariant-loop-place
invariant-loop-place l = l.same ≡ take l.place l.path
