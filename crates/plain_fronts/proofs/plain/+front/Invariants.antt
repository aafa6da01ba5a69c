use Rattle.std.proofs.Common.{◌+◌, ◌*◌, length}
use Rattle.trick_rules.specs.Play.{cards_left}
use Rattle.plain_fronts.proofs.CardByCard.{CardsLeft}
use Rattle.plain_fronts.proofs.plain.+front.Given as goal

abbrev pub decreases-plain_front : goal.decreases-plain_front
decreases-plain_front l = 2 * cards_left l.node.now.position + 1

abbrev pub decreases-front_over_cards : goal.decreases-front_over_cards
decreases-front_over_cards l = 2 * cards_left l.node.now.position

abbrev pub invariant-front_over_cards-cards : goal.invariant-front_over_cards-cards
invariant-front_over_cards-cards l = CardsLeft l.node l.left l.cards l.front

abbrev pub decreases-front_over_cards-cards : goal.decreases-front_over_cards-cards
decreases-front_over_cards-cards l = length l.cards
