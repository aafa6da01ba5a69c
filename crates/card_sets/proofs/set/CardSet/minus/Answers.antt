use Rattle.std.proofs.Common.{ap₂, ◌∙◌}
use Rattle.std.specs.Prelude.{filter, not}
use Rattle.card_sets.specs.SetWords.{has_card}
use Rattle.card_sets.proofs.Words.{IsCardSet-places, places-minus}
use Rattle.card_sets.proofs.set.CardSet.minus.Goals as goal

pub returns-clause-value : goal.returns-clause-value
returns-clause-value c =
    places-minus c.self.inside.bits c.other.inside.bits c.other.invariant
    ∙ ap₂ (λ these those. filter (λ d. not (has_card those d)) these) c.self.view_is c.other.view_is

pub returns-clause-a_set : goal.returns-clause-a_set
returns-clause-a_set c = IsCardSet-places _
