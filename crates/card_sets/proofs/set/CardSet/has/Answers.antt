use Rattle.std.proofs.Common.{sym, ap, ◌∙◌, subst}
use Rattle.std.specs.Prelude.{◌==◌, ◌/◌, ◌^◌, bit_and}
use Rattle.std.proofs.lemmas.Nat.Bits.{shr_and_one}
use Rattle.card_sets.specs.SetWords.{has_card, IsCardSet}
use Rattle.card_sets.proofs.Words.{IsCardSet-places, has_card-places}
use Rattle.card_sets.proofs.set.CardSet.has.Goals as goal

pub returns-clause-value : goal.returns-clause-value
returns-clause-value c =
    ap (λ i. bit_and (c.self.inside.bits / 2 ^ i) 1 == 1) c.number.ensures.value
    ∙ ap (λ b. b == 1) (shr_and_one c.self.inside.bits c.args.card)
    ∙ sym (has_card-places c.self.inside.bits c.args.card c.number.ensures.below)
    ∙ ap (λ cards. has_card cards c.args.card) c.self.view_is

pub returns-clause-a_set : goal.returns-clause-a_set
returns-clause-a_set c = subst IsCardSet c.self.view_is (IsCardSet-places c.self.inside.bits)
