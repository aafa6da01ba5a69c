use Rattle.std.proofs.Common.{take}
use Rattle.log_check.specs.Logs.{AreSound}
use Rattle.log_check.specs.Steps.{SayAllAlike}
use Rattle.log_check.proofs.check.check_log.Given as goal

abbrev pub invariant-loop-place : goal.invariant-loop-place
invariant-loop-place l = record {
  sound : AreSound l.node l.moves l.judged.items;
  alike : SayAllAlike (take l.place l.lines) l.judged.items;
}
