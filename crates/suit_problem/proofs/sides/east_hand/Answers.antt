use Rattle.std.proofs.Common.{◌-◌, take, drop, length, ap, ap₂, ◌∙◌}
use Rattle.pbn_deal.specs.BoardRead.{together}
use Rattle.layout_maker.specs.MadeProblem.{set_of}
use Rattle.suit_problem.proofs.sides.east_hand.Goals as goal

pub returns : goal.returns
returns c =
    let tricks = c.args.ending.now.tricks in
    let skipped = c.saturating_sub-skipped.ensures ∙ ap (λ n. tricks - n) c.count.ensures.value in
    let count = c.saturating_sub-count.ensures ∙ ap (λ n. tricks - n) c.count-2.ensures.value in
    c.either.ensures.value
    ∙ ap (together c.args.cards)
    (c.part.ensures
    ∙ ap₂ (λ n m. set_of (take n (drop m c.args.sides.now))) count skipped
    ∙ ap (λ sides. set_of (take (tricks - length c.args.cards) (drop (tricks - length c.args.west) sides))) c.requires.sides)
