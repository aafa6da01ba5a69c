use Rattle.std.proofs.Common.{◌-◌, take, length, ap, ◌∙◌}
use Rattle.pbn_deal.specs.BoardRead.{together}
use Rattle.layout_maker.specs.MadeProblem.{set_of}
use Rattle.suit_problem.proofs.sides.west_hand.Goals as goal

pub returns : goal.returns
returns c =
    let tricks = c.args.ending.now.tricks in
    let count = c.saturating_sub-count.ensures ∙ ap (λ n. tricks - n) c.count.ensures.value in
    c.either.ensures.value
    ∙ ap (together c.args.cards)
    (c.part.ensures
    ∙ ap (λ n. set_of (take n c.args.sides.now)) count
    ∙ ap (λ sides. set_of (take (tricks - length c.args.cards) sides)) c.requires.sides)
