use Rattle.std.proofs.Common.{rules, ◌≡◌, ◌∙◌, sym}
use denote.Enum.Bare.{same_true}
use Rattle.card_sets.specs.contracts.card.Suit.{the_type}
use Rattle.set_search.proofs.LeftOut.{next_in_suit}
use Rattle.set_search.proofs.neighbours.neighbour_above.Goals as goal

pub returns-then-eq : goal.returns-then-eq
returns-then-eq c =
    let same : c.suit.result ≡ c.suit-2.result = same_true the_type (search rules) _ _ (sym c.if-eq.ensures) in
    next_in_suit c.args.position.now c.cards_in_play.result c.cards_in_play.ensures c.args.card c.in_ok-next.next c.suit.ensures.below (sym c.in_ok-next.ensures.value) (sym c.suit-2.ensures.value ∙ sym same ∙ c.suit.ensures.value)
