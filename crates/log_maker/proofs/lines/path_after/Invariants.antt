use Rattle.std.proofs.Common.{◌≡◌, take}
use Rattle.log_maker.proofs.lines.path_after.Given as goal

abbrev pub invariant-loop-place : goal.invariant-loop-place
invariant-loop-place l = l.line ≡ take l.place l.path
