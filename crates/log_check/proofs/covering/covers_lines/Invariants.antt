use Rattle.std.proofs.Common.{◌↔◌, Contains, drop}
use Rattle.win_vectors.specs.Fronts.{CoversAll}
use Rattle.log_check.specs.declared.lines.LogLine.{LogLine}
use Rattle.log_check.specs.Logs.{cited_lines}
use Rattle.log_check.proofs.covering.covers_lines.Given as goal

abbrev pub invariant-loop-number : goal.invariant-loop-number
invariant-loop-number l = ((k : LogLine) → Contains (cited_lines l.lines l.numbers) k → CoversAll l.vectors k.vectors)
    ↔ ((k : LogLine) → Contains (cited_lines l.lines (drop l.number-index l.numbers)) k → CoversAll l.vectors k.vectors)
