use Rattle.std.proofs.Common.{◌≡◌, ◌++◌, flat_map, take}
use Rattle.page_text.specs.Partings.{beside}
use Rattle.page_text.proofs.partings.push_each_beside.Given as goal

abbrev pub invariant-loop-line : goal.invariant-loop-line
invariant-loop-line l = l.page ≡ l.initial.page ++ flat_map (beside l.declarer l.position) (take l.line-index l.besides)
