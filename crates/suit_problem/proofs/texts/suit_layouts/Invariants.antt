use Rattle.std.proofs.Common.{◌≡◌, flat_map}
use Rattle.std.specs.List.{range_with_len}
use Rattle.suit_problem.specs.SuitTexts.{division_lines}
use Rattle.suit_problem.proofs.texts.suit_layouts.Given as goal

abbrev pub invariant-loop-size : goal.invariant-loop-size
invariant-loop-size l = l.text ≡ flat_map (division_lines l.ending) (range_with_len 0 l.size)
