use Rattle.std.proofs.Common.{◌≡◌, map, take}
use Rattle.fusion_base.specs.Sampling.{cards_that_make}
use Rattle.fusion_base.proofs.table.made_in_turn.Given as goal

abbrev pub invariant-loop-left : goal.invariant-loop-left
invariant-loop-left l = l.made.items ≡ map (cards_that_make l.node) (take l.left-index l.left-items)
