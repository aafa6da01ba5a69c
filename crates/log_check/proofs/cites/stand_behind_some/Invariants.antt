use Rattle.std.proofs.Common.{◌↔◌, drop}
use Rattle.log_check.specs.Logs.{cited_lines}
use Rattle.log_check.specs.Steps.{StandBehindSome}
use Rattle.log_check.proofs.cites.stand_behind_some.Given as goal

abbrev pub invariant-loop-number : goal.invariant-loop-number
invariant-loop-number l = StandBehindSome l.path l.choices 0 (cited_lines l.lines l.numbers)
    ↔ StandBehindSome l.path l.choices l.low (cited_lines l.lines (drop l.number-index l.numbers))
