use Rattle.std.proofs.Common.{◌≡◌, ◌++◌, flat_map}
use Rattle.std.specs.List.{range_with_len}
use Rattle.layout_facts.specs.Facts.{lengths}
use Rattle.layout_facts.proofs.listed.push_all_lengths.Given as goal

abbrev pub invariant-loop-count : goal.invariant-loop-count
invariant-loop-count l = l.listed.items ≡ l.initial.listed.items ++ flat_map lengths (range_with_len 0 l.count)
