use Rattle.std.proofs.Common.{subst}
use Rattle.card_sets.specs.SetWords.{IsCardSet}
use Rattle.card_sets.proofs.Words.{IsCardSet-places}
use Rattle.card_sets.proofs.set.CardSet.first.Goals as goal

pub returns-clause-a_set : goal.returns-clause-a_set
returns-clause-a_set c = subst IsCardSet c.self.view_is (IsCardSet-places c.self.inside.bits)
