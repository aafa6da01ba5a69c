use Rattle.std.proofs.Common.{ap, ◌∙◌, subst}
use Rattle.std.specs.Prelude.{◌+◌, ◌-◌, ◌*◌, ◌%◌, ◌^◌, bit_and, nat_lt, find}
use Rattle.bit_lists.specs.Bits.{places}
use Rattle.card_sets.specs.SetWords.{IsCardSet, first_card}
use Rattle.card_sets.proofs.Sets.{first_card-filter}
use Rattle.card_sets.proofs.Words.{IsCardSet-places, places-after}
use Rattle.card_sets.proofs.set.CardSet.after.Goals as goal

pub returns-clause-value : goal.returns-clause-value
returns-clause-value c =
    c.lowest.ensures
    ∙ ap (λ i. first_card (places 52 (bit_and c.self.inside.bits ((2 ^ 64 - 1) * 2 ^ (i + 1) % 2 ^ 64)))) c.number.ensures.value
    ∙ ap first_card (places-after c.self.inside.bits c.args.card c.number.ensures.below)
    ∙ first_card-filter (nat_lt c.args.card) (places 52 c.self.inside.bits)
    ∙ ap (find (nat_lt c.args.card)) c.self.view_is

pub returns-clause-a_set : goal.returns-clause-a_set
returns-clause-a_set c = subst IsCardSet c.self.view_is (IsCardSet-places c.self.inside.bits)
