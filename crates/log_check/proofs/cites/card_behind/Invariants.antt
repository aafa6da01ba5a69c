use Rattle.std.proofs.Common.{◌≡◌, take}
use Rattle.log_check.proofs.cites.card_behind.Given as goal

abbrev pub invariant-loop-place : goal.invariant-loop-place
invariant-loop-place l = take l.place l.line ≡ take l.place l.path
