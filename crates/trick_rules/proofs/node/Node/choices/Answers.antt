use Rattle.std.proofs.Common.{◌∙◌}
use Rattle.trick_rules.proofs.KeptLayouts.{choices_more}
use Rattle.trick_rules.proofs.node.Node.choices.Goals as goal

pub loop-left-preserved : goal.loop-left-preserved
loop-left-preserved c =
    (rw (c.loop-left.invariant, c.legal_in.ensures) at c.either-cards.ensures.value)
    ∙ choices_more c.self.inside.position c.deref-left-items.result.now c.loop-left.left-index c.left-item.result c.loop-left-test.true c.left-item.is
