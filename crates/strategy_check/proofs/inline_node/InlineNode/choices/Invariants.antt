use Rattle.std.proofs.Common.{◌≡◌, take}
use Rattle.std.specs.List.{list_any}
use Rattle.card_sets.specs.SetWords.{cards_where}
use Rattle.trick_rules.specs.Nodes.{is_legal}
use Rattle.strategy_check.proofs.inline_node.InlineNode.choices.Given as goal

abbrev pub invariant-loop-left : goal.invariant-loop-left
invariant-loop-left l = l.cards ≡ cards_where (λ card. list_any (is_legal l.self-inside.position card) (take l.left-index l.left-items))
