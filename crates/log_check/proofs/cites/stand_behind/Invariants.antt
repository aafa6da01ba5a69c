use Rattle.std.proofs.Common.{◌↔◌, drop}
use Rattle.log_check.specs.Logs.{cited_lines, StandBehind}
use Rattle.log_check.proofs.cites.stand_behind.Given as goal

abbrev pub invariant-loop-number : goal.invariant-loop-number
invariant-loop-number l = StandBehind l.path l.fn.cards (cited_lines l.lines l.numbers)
    ↔ StandBehind l.path l.rest (cited_lines l.lines (drop l.number-index l.numbers))
