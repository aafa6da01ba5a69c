use Rattle.std.proofs.Common.{sym, ap, ◌∙◌, subst}
use Rattle.std.specs.Prelude.{length}
use Rattle.bit_lists.proofs.Places.{length-places}
use Rattle.card_sets.specs.SetWords.{IsCardSet}
use Rattle.card_sets.proofs.Words.{IsCardSet-places}
use Rattle.card_sets.proofs.set.CardSet.count.Goals as goal

pub returns-clause-value : goal.returns-clause-value
returns-clause-value c = sym (length-places 52 c.self.inside.bits c.self.invariant) ∙ ap length c.self.view_is

pub returns-clause-a_set : goal.returns-clause-a_set
returns-clause-a_set c = subst IsCardSet c.self.view_is (IsCardSet-places c.self.inside.bits)
