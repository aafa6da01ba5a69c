use Rattle.std.proofs.Common.{◌≡◌, drop}
use Rattle.layout_facts.specs.Tables.{first_one}
use Rattle.layout_facts.proofs.deciding.one.Given as goal

abbrev pub invariant-loop-judged : goal.invariant-loop-judged
invariant-loop-judged l = first_one l.vector l.table ≡ first_one l.vector (drop l.judged-index l.table)
