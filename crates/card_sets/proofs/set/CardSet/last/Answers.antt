use Rattle.std.proofs.Common.{sym, ap, ◌∙◌, subst}
use Rattle.bit_lists.specs.Bits.{places}
use Rattle.card_sets.specs.SetWords.{IsCardSet, IsLast}
use Rattle.card_sets.proofs.Last.{highest_within, IsLast-places}
use Rattle.card_sets.proofs.Words.{IsCardSet-places, places-zero}
use Rattle.card_sets.proofs.set.CardSet.last.Goals as goal

pub from_number-requires : goal.from_number-requires
from_number-requires c = highest_within c.self.inside.bits c.ilog2.result c.ilog2.ensures.power_le c.self.invariant

pub returns-then-self-eq0-clause-value : goal.returns-then-self-eq0-clause-value
returns-then-self-eq0-clause-value c = sym c.self.view_is ∙ ap (places 52) c.if-self-eq0.true ∙ places-zero

pub returns-then-self-eq0-clause-a_set : goal.returns-then-self-eq0-clause-a_set
returns-then-self-eq0-clause-a_set c = subst IsCardSet c.self.view_is (IsCardSet-places c.self.inside.bits)

pub returns-else-self-eq0-clause-value : goal.returns-else-self-eq0-clause-value
returns-else-self-eq0-clause-value c =
    subst (λ card. IsLast card c.args.self) (sym c.from_number.ensures)
    (subst (IsLast c.ilog2.result) c.self.view_is
    (IsLast-places c.self.inside.bits c.ilog2.result c.ilog2.ensures.power_le c.ilog2.ensures.next_power_gt c.self.invariant))

pub returns-else-self-eq0-clause-a_set : goal.returns-else-self-eq0-clause-a_set
returns-else-self-eq0-clause-a_set c = subst IsCardSet c.self.view_is (IsCardSet-places c.self.inside.bits)
