use Rattle.std.proofs.Common.{ap, ◌∙◌, subst, sym}
use Rattle.std.specs.Prelude.{◌+◌, ◌-◌, ◌*◌, ◌%◌, ◌^◌, bit_and, nat_lt, filter}
use Rattle.bit_lists.specs.Bits.{places}
use Rattle.card_sets.specs.SetWords.{IsLast}
use Rattle.card_sets.proofs.Last.{after_each_is, after_none}
use Rattle.card_sets.proofs.Words.{IsCardSet-places, places-after}
use Rattle.card_sets.proofs.set.CardSet.after_each.Goals as goal

pub returns-in_default-clause-value : goal.returns-in_default-clause-value
returns-in_default-clause-value c = c.self.view_is ∙ after_none c.args.other c.args.self c.in_default.ensures.value

pub returns-in_default-clause-a_set : goal.returns-in_default-clause-a_set
returns-in_default-clause-a_set c = IsCardSet-places _

pub returns-clause-value : goal.returns-clause-value
returns-clause-value c =
    ap (λ i. places 52 (bit_and c.self.inside.bits ((2 ^ 64 - 1) * 2 ^ (i + 1) % 2 ^ 64))) c.number.ensures.value
    ∙ places-after c.self.inside.bits c.in-Some.last c.number.ensures.below
    ∙ ap (filter (nat_lt c.in-Some.last)) c.self.view_is
    ∙ after_each_is c.in-Some.last c.args.other c.args.self c.in-Some.ensures.value

pub returns-clause-a_set : goal.returns-clause-a_set
returns-clause-a_set c = IsCardSet-places _
