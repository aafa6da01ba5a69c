use Rattle.std.proofs.Common.{ap, ◌∙◌}
use Rattle.std.specs.Prelude.{filter}
use Rattle.card_sets.specs.Cards.{suit_of, same_suit}
use Rattle.card_sets.proofs.Words.{IsCardSet-places, places-masked}
use Rattle.card_sets.proofs.set.CardSet.of_suit.Goals as goal

pub returns-clause-value : goal.returns-clause-value
returns-clause-value c =
    places-masked c.self.inside.bits c.suit_bits.result (λ d. same_suit (suit_of d) c.args.suit) c.suit_bits.ensures.value
    ∙ ap (filter (λ d. same_suit (suit_of d) c.args.suit)) c.self.view_is

pub returns-clause-a_set : goal.returns-clause-a_set
returns-clause-a_set c = IsCardSet-places _
