use Rattle.std.proofs.Common.{◌∙◌}
use Rattle.trick_rules.proofs.KeptLayouts.{choices_more}
use Rattle.strategy_check.proofs.inline_node.InlineNode.choices.Goals as goal

pub loop-left-preserved : goal.loop-left-preserved
loop-left-preserved c =
    (rw (c.loop-left.invariant, c.legal_in.ensures) at c.either-cards.ensures.value)
    ∙ choices_more c.self.inside.position c.as_slice-left-items.result.now c.loop-left.left-index c.left-item.result c.loop-left-test.true c.left-item.is
