use Rattle.std.proofs.Common.{◌≡◌, ◌≤◌, length}
use Rattle.trick_rules.specs.Nodes.{is_legal}
use Rattle.trick_rules.proofs.KeptLayouts.{kept_upto}
use Rattle.strategy_check.proofs.inline_node.InlineNode.child.Given as goal

abbrev pub invariant-loop-left : goal.invariant-loop-left
invariant-loop-left l = record {
  kept : l.lefts.items ≡ kept_upto (is_legal l.self-inside.position l.card) l.card l.left-items l.left-index;
  room : length l.lefts.items ≤ l.left-index;
}
