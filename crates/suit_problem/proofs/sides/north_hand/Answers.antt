use Rattle.std.proofs.Common.{◌-◌, ap, ap₂, ◌∙◌}
use Rattle.card_sets.specs.declared.card.Suit.TheVariants.{Diamonds}
use Rattle.pbn_deal.specs.BoardRead.{together}
use Rattle.suit_problem.specs.Endings.{smalls}
use Rattle.suit_problem.proofs.sides.north_hand.Goals as goal

pub returns : goal.returns
returns c =
    let ending = c.args.ending.now in
    c.either.ensures.value
    ∙ ap₂ together (c.either-suit_and_entries.ensures.value ∙ ap (together ending.dummy) c.tops.ensures)
    (c.smalls.ensures ∙ ap (λ held. smalls Diamonds (ending.tricks - held - ending.entries)) c.count.ensures.value)
