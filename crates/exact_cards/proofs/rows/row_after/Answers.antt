use Rattle.std.proofs.Common.{◌≡◌, ◌∙◌, ℕ, List, length, sym, ap, subst, refl}
use Rattle.trick_rules.specs.Nodes.{NodeValue, child}
use Rattle.exact_cards.proofs.OwnCards.{lefts_kept}
use Rattle.exact_cards.proofs.rows.row_after.Goals as goal

pub value_after-requires-clause-weights : goal.value_after-requires-clause-weights
value_after-requires-clause-weights c =
    let n = c.args.asked.now.node.now in
    let kept = ap (λ (m : NodeValue). m.lefts) c.in_ok-child.ensures.node ∙ lefts_kept n c.args.believed.now.card c.width-width.ensures.a_node c.requires.ours c.requires.card in
    c.requires.weights ∙ ap (length {A = List ℕ}) (sym kept)

pub value_after-requires-clause-memo : goal.value_after-requires-clause-memo
value_after-requires-clause-memo c =
    let n = c.args.asked.now.node.now in
    let kept = ap (λ (m : NodeValue). m.lefts) c.in_ok-child.ensures.node ∙ lefts_kept n c.args.believed.now.card c.width-width.ensures.a_node c.requires.ours c.requires.card in
    c.requires.memo ∙ sym kept
