use Rattle.std.proofs.Common.{◌≡◌, drop}
use Rattle.layout_facts.specs.Tables.{second_of}
use Rattle.layout_facts.proofs.deciding.second_of.Given as goal

abbrev pub invariant-loop-second : goal.invariant-loop-second
invariant-loop-second l = second_of l.vector l.joint l.first l.table ≡ second_of l.vector l.joint l.first (drop l.second-index l.table)
