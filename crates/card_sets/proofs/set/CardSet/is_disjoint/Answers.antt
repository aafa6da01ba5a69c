use Rattle.std.proofs.Common.{subst}
use Rattle.std.specs.Prelude.{bit_and}
use Rattle.std.proofs.lemmas.Bool.{eqb-true, eq-eqb}
use Rattle.card_sets.specs.SetWords.{IsCardSet}
use Rattle.card_sets.proofs.Words.{IsCardSet-places, Apart-places, zero_from_Apart}
use Rattle.card_sets.proofs.set.CardSet.is_disjoint.Goals as goal

pub returns-clause-value : goal.returns-clause-value
returns-clause-value c =
    rw (← c.self.view_is, ← c.other.view_is) (
      λ zero. Apart-places c.self.inside.bits c.other.inside.bits (eqb-true (bit_and c.self.inside.bits c.other.inside.bits) 0 zero),
      λ apart. eq-eqb (bit_and c.self.inside.bits c.other.inside.bits) 0 (zero_from_Apart c.self.inside.bits c.other.inside.bits c.self.invariant apart),
    )

pub returns-clause-a_set : goal.returns-clause-a_set
returns-clause-a_set c = subst IsCardSet c.self.view_is (IsCardSet-places c.self.inside.bits)
