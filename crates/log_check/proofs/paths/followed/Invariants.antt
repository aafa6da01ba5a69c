use Rattle.std.proofs.Common.{drop}
use Rattle.log_check.proofs.Followed.{IsUnderWay}
use Rattle.log_check.proofs.paths.followed.Given as goal

abbrev pub invariant-loop-place : goal.invariant-loop-place
invariant-loop-place l = IsUnderWay l.root l.moves l.path l.node l.left (drop l.place l.path)
