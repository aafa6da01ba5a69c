use Rattle.std.proofs.Common.{ap₂, ◌∙◌}
use Rattle.std.specs.Prelude.{filter}
use Rattle.card_sets.specs.SetWords.{has_card}
use Rattle.card_sets.proofs.Words.{IsCardSet-places, places-both}
use Rattle.card_sets.proofs.set.CardSet.both.Goals as goal

pub returns-clause-value : goal.returns-clause-value
returns-clause-value c = places-both c.self.inside.bits c.other.inside.bits ∙ ap₂ (λ these those. filter (has_card those) these) c.self.view_is c.other.view_is

pub returns-clause-a_set : goal.returns-clause-a_set
returns-clause-a_set c = IsCardSet-places _
