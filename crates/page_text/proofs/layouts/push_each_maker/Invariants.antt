use Rattle.std.proofs.Common.{◌≡◌, ◌++◌, flat_map, take}
use Rattle.page_text.specs.Layouts.{maker}
use Rattle.page_text.proofs.layouts.push_each_maker.Given as goal

abbrev pub invariant-loop-line : goal.invariant-loop-line
invariant-loop-line l = l.page ≡ l.initial.page ++ flat_map (maker l.place) (take l.line-index l.lines)
