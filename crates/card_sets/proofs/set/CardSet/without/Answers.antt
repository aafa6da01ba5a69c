use Rattle.std.proofs.Common.{ap, ◌∙◌}
use Rattle.std.specs.Prelude.{◌==◌, ◌-◌, ◌^◌, bit_and, not, filter}
use Rattle.bit_lists.specs.Bits.{places}
use Rattle.card_sets.proofs.Words.{IsCardSet-places, places-without}
use Rattle.card_sets.proofs.set.CardSet.without.Goals as goal

pub returns-clause-value : goal.returns-clause-value
returns-clause-value c =
    ap (λ b. places 52 (bit_and c.self.inside.bits (2 ^ 64 - 1 - b))) c.bit_of.ensures.value
    ∙ places-without c.self.inside.bits c.args.card c.bit_of.ensures.below
    ∙ ap (filter (λ d. not (d == c.args.card))) c.self.view_is

pub returns-clause-a_set : goal.returns-clause-a_set
returns-clause-a_set c = IsCardSet-places _
