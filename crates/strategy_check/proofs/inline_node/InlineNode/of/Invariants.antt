use Rattle.std.proofs.Common.{◌≡◌, take}
use Rattle.strategy_check.proofs.inline_node.InlineNode.of.Given as goal

abbrev pub invariant-loop-left : goal.invariant-loop-left
invariant-loop-left l = l.lefts.items ≡ take l.left-index l.left-items
