use Rattle.card_sets.proofs.Words.{IsCardSet-places, places-zero}
use Rattle.card_sets.proofs.set.CardSet.empty.Goals as goal

pub returns-clause-value : goal.returns-clause-value
returns-clause-value c = places-zero

pub returns-clause-a_set : goal.returns-clause-a_set
returns-clause-a_set c = IsCardSet-places 0
