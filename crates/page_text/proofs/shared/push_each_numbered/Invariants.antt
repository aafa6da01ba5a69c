use Rattle.std.proofs.Common.{◌≡◌, ◌++◌, flat_map}
use Rattle.std.specs.List.{range_with_len}
use Rattle.page_text.specs.Shared.{numbered}
use Rattle.page_text.proofs.shared.push_each_numbered.Given as goal

abbrev pub invariant-loop-place : goal.invariant-loop-place
invariant-loop-place l = l.page ≡ l.initial.page ++ flat_map (numbered l.before l.after) (range_with_len 1 l.place)
