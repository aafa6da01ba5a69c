use Rattle.std.proofs.Common.{ap, ◌∙◌}
use Rattle.std.specs.Prelude.{◌-◌, ◌*◌, ◌%◌, ◌^◌, bit_and, nat_lt, not, ◌&&◌}
use Rattle.bit_lists.specs.Bits.{places}
use Rattle.card_sets.specs.Cards.{suit_of, same_suit}
use Rattle.card_sets.specs.SetWords.{cards_where}
use Rattle.card_sets.proofs.Words.{IsCardSet-places, places-from}
use Rattle.card_sets.proofs.set.CardSet.up_from.Goals as goal

pub returns-clause-value : goal.returns-clause-value
returns-clause-value c =
    ap (λ i. places 52 (bit_and c.suit_bits.result ((2 ^ 64 - 1) * 2 ^ i % 2 ^ 64))) c.number.ensures.value
    ∙ places-from c.suit_bits.result c.args.card (λ d. same_suit (suit_of d) c.suit.result) c.suit_bits.ensures.value c.number.ensures.below
    ∙ ap (λ suit. cards_where (λ d. same_suit (suit_of d) suit && not (nat_lt d c.args.card))) c.suit.ensures.value

pub returns-clause-a_set : goal.returns-clause-a_set
returns-clause-a_set c = IsCardSet-places _
