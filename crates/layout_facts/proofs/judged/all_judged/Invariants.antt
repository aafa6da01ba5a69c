use Rattle.std.proofs.Common.{◌≡◌, map, take}
use Rattle.layout_facts.specs.Reasons.{judge}
use Rattle.layout_facts.proofs.judged.all_judged.Given as goal

abbrev pub invariant-loop-fact : goal.invariant-loop-fact
invariant-loop-fact l = l.table.items ≡ map (judge l.node) (take l.fact-index l.listed)
