use Rattle.std.proofs.Common.{take}
use Rattle.told_report.specs.ToldReport.{AreWords}
use Rattle.told_report.proofs.telling.tell_strategies.Given as goal

abbrev pub invariant-loop-read : goal.invariant-loop-read
invariant-loop-read l = AreWords l.declarer l.weights l.node (take l.read-index l.entries) l.writer
