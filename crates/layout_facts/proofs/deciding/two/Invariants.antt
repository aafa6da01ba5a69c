use Rattle.std.proofs.Common.{◌≡◌, drop}
use Rattle.layout_facts.specs.Tables.{first_two}
use Rattle.layout_facts.proofs.deciding.two.Given as goal

abbrev pub invariant-loop-first : goal.invariant-loop-first
invariant-loop-first l = first_two l.vector l.joint l.table l.table ≡ first_two l.vector l.joint l.table (drop l.first-index l.table)
