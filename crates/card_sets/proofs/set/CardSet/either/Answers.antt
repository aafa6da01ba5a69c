use Rattle.std.proofs.Common.{ap₂, ◌∙◌}
use Rattle.std.specs.Prelude.{◌||◌}
use Rattle.std.proofs.lemmas.Nat.{or_lt}
use Rattle.card_sets.specs.SetWords.{has_card, cards_where}
use Rattle.card_sets.proofs.Words.{IsCardSet-places, places-or}
use Rattle.card_sets.proofs.set.CardSet.either.Goals as goal

pub invariant_of-result : goal.invariant_of-result
invariant_of-result c = or_lt 52 c.self.inside.bits c.other.inside.bits c.self.invariant c.other.invariant

pub returns-clause-value : goal.returns-clause-value
returns-clause-value c =
    places-or c.self.inside.bits c.other.inside.bits
    ∙ ap₂ (λ these those. cards_where (λ d. has_card these d || has_card those d)) c.self.view_is c.other.view_is

pub returns-clause-a_set : goal.returns-clause-a_set
returns-clause-a_set c = IsCardSet-places _
