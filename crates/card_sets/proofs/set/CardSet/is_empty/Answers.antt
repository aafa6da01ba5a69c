use Rattle.std.proofs.Common.{sym, ap, ◌∙◌, subst}
use Rattle.std.proofs.lemmas.Bool.{eqb-true, eq-eqb}
use Rattle.bit_lists.specs.Bits.{places}
use Rattle.card_sets.specs.SetWords.{IsCardSet}
use Rattle.card_sets.proofs.Words.{IsCardSet-places, places-zero, zero_from_places}
use Rattle.card_sets.proofs.set.CardSet.is_empty.Goals as goal

pub returns-clause-value : goal.returns-clause-value
returns-clause-value c = (
  λ zero. sym c.self.view_is ∙ ap (places 52) (eqb-true c.self.inside.bits 0 zero) ∙ places-zero,
  λ none. eq-eqb c.self.inside.bits 0 (zero_from_places c.self.inside.bits c.self.invariant (c.self.view_is ∙ none)),
)

pub returns-clause-a_set : goal.returns-clause-a_set
returns-clause-a_set c = subst IsCardSet c.self.view_is (IsCardSet-places c.self.inside.bits)
