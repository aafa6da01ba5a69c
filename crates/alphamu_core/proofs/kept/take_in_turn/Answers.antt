use Rattle.std.proofs.Common.{sym, subst}
use Rattle.alphamu_core.specs.Kept.{IsTaken}
use Rattle.alphamu_core.proofs.Taken.{taken_out}
use Rattle.alphamu_core.proofs.kept.take_in_turn.Goals as goal

pub returns : goal.returns
returns c = record { taken = subst (λ rest. IsTaken c.args.cards.now c.in_ok-card.card rest) (sym c.without.ensures.value) (taken_out c.args.cards.now c.in_ok-card.card c.next_in_turn.ensures.a_set c.in_ok-card.ensures.held) }
