use Rattle.std.proofs.Common.{ap, ◌∙◌}
use Rattle.std.specs.Prelude.{◌==◌, ◌||◌, bit_or}
use Rattle.std.proofs.lemmas.Nat.{or_lt, pow_below}
use Rattle.bit_lists.specs.Bits.{places}
use Rattle.card_sets.specs.SetWords.{has_card, cards_where}
use Rattle.card_sets.proofs.Words.{IsCardSet-places, places-with}
use Rattle.card_sets.proofs.set.CardSet.with.Goals as goal

pub invariant_of-result : goal.invariant_of-result
invariant_of-result c = or_lt 52 c.self.inside.bits c.bit_of.result c.self.invariant (rw c.bit_of.ensures.value (pow_below c.args.card 52 c.bit_of.ensures.below))

pub returns-clause-value : goal.returns-clause-value
returns-clause-value c =
    ap (λ b. places 52 (bit_or c.self.inside.bits b)) c.bit_of.ensures.value
    ∙ places-with c.self.inside.bits c.args.card
    ∙ ap (λ cards. cards_where (λ d. has_card cards d || (d == c.args.card))) c.self.view_is

pub returns-clause-a_set : goal.returns-clause-a_set
returns-clause-a_set c = IsCardSet-places _
