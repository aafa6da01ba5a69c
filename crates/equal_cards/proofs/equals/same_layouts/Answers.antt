use Rattle.std.proofs.Common.{sym, ◌∙◌}
use Rattle.strategy_tree.proofs.BridgeNodes.{our_mask}
use Rattle.equal_cards.proofs.equals.same_layouts.Goals as goal

pub returns-then-is_ours : goal.returns-then-is_ours
returns-then-is_ours c =
    let n = c.args.node.now in
    let ours = sym c.is_ours.ensures ∙ c.if-is_ours.true in
    (λ _. our_mask n c.args.card ours c.requires.choice ∙ sym (our_mask n c.args.other ours c.requires.other_choice), λ _. c.if-is_ours.true)
