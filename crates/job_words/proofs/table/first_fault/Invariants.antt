use Rattle.std.proofs.Common.{◌≡◌, drop}
use Rattle.job_words.specs.Table.{first_fault}
use Rattle.job_words.proofs.table.first_fault.Given as goal

abbrev pub invariant-loop-row : goal.invariant-loop-row
invariant-loop-row l = first_fault l.asked (drop l.row-index l.rows) ≡ first_fault l.asked l.rows
