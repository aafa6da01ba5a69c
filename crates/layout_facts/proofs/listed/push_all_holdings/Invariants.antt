use Rattle.std.proofs.Common.{◌≡◌, ◌++◌, ◌-◌, flat_map}
use Rattle.std.specs.List.{range_with_len}
use Rattle.layout_facts.specs.Facts.{holdings}
use Rattle.layout_facts.proofs.listed.push_all_holdings.Given as goal

abbrev pub invariant-loop-place : goal.invariant-loop-place
invariant-loop-place l = l.listed.items ≡ l.initial.listed.items ++ flat_map (λ place. holdings (14 - place)) (range_with_len 0 l.place)
