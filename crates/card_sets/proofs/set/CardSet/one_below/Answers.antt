use Rattle.std.proofs.Common.{◌≡◌, ◌+◌, refl, ap, ◌&&◌, ◌∙◌}
use Rattle.bit_lists.specs.Bits.{places, below}
use Rattle.card_sets.specs.Cards.{suit_of, same_suit}
use Rattle.card_sets.specs.SetWords.{has_card, cards_where}
use Rattle.card_sets.proofs.Words.{IsCardSet-places, places-one_below}
use Rattle.card_sets.proofs.set.CardSet.one_below.Goals as goal

not_last : places 52 0xf_ffbf_fdff_efff ≡ cards_where (λ c. same_suit (suit_of c) (suit_of (c + 1)))
unfolding places below cards_where
not_last = refl

pub returns-clause-value : goal.returns-clause-value
returns-clause-value c =
    places-one_below c.self.inside.bits 0xf_ffbf_fdff_efff c.self.invariant not_last
    ∙ ap (λ cards. cards_where (λ d. has_card cards (d + 1) && same_suit (suit_of d) (suit_of (d + 1)))) c.self.view_is

pub returns-clause-a_set : goal.returns-clause-a_set
returns-clause-a_set c = IsCardSet-places _
