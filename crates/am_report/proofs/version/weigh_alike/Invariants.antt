use Rattle.std.proofs.Common.{◌≡◌, true, take}
use Rattle.am_report.specs.Versions.{weigh_alike}
use Rattle.am_report.proofs.version.weigh_alike.Given as goal

abbrev pub invariant-loop-place : goal.invariant-loop-place
invariant-loop-place l = weigh_alike (take l.place l.weights) ≡ true
