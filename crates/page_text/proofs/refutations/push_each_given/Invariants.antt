use Rattle.std.proofs.Common.{◌≡◌, ◌++◌, flat_map}
use Rattle.std.specs.List.{range_with_len}
use Rattle.page_text.specs.Refutations.{given_with}
use Rattle.page_text.proofs.refutations.push_each_given.Given as goal

abbrev pub invariant-loop-number : goal.invariant-loop-number
invariant-loop-number l = l.page ≡ l.initial.page ++ flat_map (given_with l.refuted) (range_with_len 0 l.number)
