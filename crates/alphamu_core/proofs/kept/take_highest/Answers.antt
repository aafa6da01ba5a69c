use Rattle.std.proofs.Common.{sym, subst}
use Rattle.alphamu_core.specs.Kept.{IsTaken}
use Rattle.alphamu_core.proofs.Taken.{taken_out}
use Rattle.alphamu_core.proofs.kept.take_highest.Goals as goal

pub returns-clause-taken : goal.returns-clause-taken
returns-clause-taken c = subst (λ rest. IsTaken c.args.cards.now c.in_ok-highest.highest rest) (sym c.without.ensures.value) (taken_out c.args.cards.now c.in_ok-highest.highest c.last.ensures.a_set c.in_ok-highest.ensures.value.held)
