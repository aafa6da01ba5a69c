use Rattle.std.proofs.Common.{sym, ap, ◌∙◌}
use Rattle.trick_rules.specs.Play.{of_suit}
use Rattle.dd_solver.proofs.HeadingHand.{last_heads}
use Rattle.dd_solver.proofs.headed.FourHands.heading_card.Goals as goal

pub returns : goal.returns
returns c =
    let four = c.args.self.now in
    let suit = c.suit-suit.ensures.value in
    last_heads c.args.trump c.args.led c.suit-suit.ensures.below four c.requires.partner c.requires.third
    (λ card same. c.can_ruff-else-can_ruff.ensures card (same ∙ sym suit) c.if-can_ruff-2.false)
    (λ card same. c.can_ruff.ensures card (same ∙ sym suit) c.if-can_ruff.false)
    c.of_suit-own.result c.either.result c.with-to_come.result c.of_suit.result c.after_each.result
    (c.of_suit-own.ensures.value ∙ ap (λ u. of_suit u four.own) suit) c.either.ensures.value c.with-to_come.ensures.value
    (c.of_suit.ensures.value ∙ ap (λ u. of_suit u c.with-to_come.result) suit) c.after_each.ensures.value c.last.result c.last.ensures.value
