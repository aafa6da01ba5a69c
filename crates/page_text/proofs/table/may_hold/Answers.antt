use Rattle.std.proofs.Common.{◌∙◌, ap}
use Rattle.trick_rules.specs.Positions.{PositionValue}
use Rattle.trick_rules.specs.Play.{hand_of}
use Rattle.page_text.proofs.Held.{may_more}
use Rattle.page_text.proofs.table.may_hold.Goals as goal

pub loop-left-preserved : goal.loop-left-preserved
loop-left-preserved c =
    let left = c.left-item.result in
    let hand = c.hand.ensures ∙ ap (λ (t : PositionValue). hand_of (record { position = t; left = left }) c.args.seat) c.position.ensures.value in
    may_more c.args.node.now.position c.args.seat c.lefts-left-items.result.now c.loop-left.left-index left c.hand.result c.loop-left.cards c.either-cards.result c.loop-left-test.true c.left-item.is hand c.loop-left.invariant c.either-cards.ensures.value
