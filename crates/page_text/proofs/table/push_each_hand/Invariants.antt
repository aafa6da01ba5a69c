use Rattle.std.proofs.Common.{◌≡◌, ◌++◌, flat_map, take}
use Rattle.page_text.specs.Tables.{hand_in}
use Rattle.page_text.proofs.table.push_each_hand.Given as goal

abbrev pub invariant-loop-left : goal.invariant-loop-left
invariant-loop-left l = l.page ≡ l.initial.page ++ flat_map (hand_in l.node.position l.seat l.sure) (take l.left-index l.left-items)
