use Rattle.std.proofs.Common.{◌≡◌, ◌++◌, flat_map, take}
use Rattle.suit_problem.specs.SuitTexts.{division_line}
use Rattle.suit_problem.proofs.texts.push_divisions.Given as goal

abbrev pub invariant-loop-layout : goal.invariant-loop-layout
invariant-loop-layout l = l.text ≡ l.initial.text ++ flat_map (division_line l.ending) (take l.layout-index l.layouts)
