use Rattle.std.proofs.Common.{◌≡◌, ◌∙◌, ℕ, List, sym, ap, arith}
use Rattle.card_sets.specs.SetWords.{has_card}
use Rattle.log_check.proofs.PathNodes.{our_turn, our_turn-ours, our_turn-theirs}
use Rattle.log_check.proofs.Followed.{step}
use Rattle.log_check.proofs.paths.after_card.Goals as goal
use Rattle.log_check.proofs.paths.after_card.Goals.{then-is_ours, else-is_ours}

pub returns : goal.returns
returns c =
    let cost : c.if-is_ours.cost ≡ our_turn c.args.node.now = elim c.if-is_ours.branch [
      | then-is_ours w ↦ w.cost-is ∙ sym (our_turn-ours c.args.node.now (sym c.is_ours.ensures ∙ w.if-is_ours.true))
      | else-is_ours w ↦ w.cost-is ∙ sym (our_turn-theirs c.args.node.now (sym c.is_ours.ensures ∙ w.if-is_ours.false))
    ] in
    let enough = c.if-moves-cost.false in
    step c.args.node.now c.in_ok-child.child c.args.moves _ c.args.card c.if-is_ours.cost cost
    (sym (ap (λ (cards : List ℕ). has_card cards c.args.card) c.choices.ensures) ∙ sym c.has.ensures.value ∙ c.if-not-has.false)
    c.in_ok-child.ensures.node (omega arith)
