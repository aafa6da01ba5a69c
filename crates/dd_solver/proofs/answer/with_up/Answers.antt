use Rattle.std.proofs.Common.{sym, ◌∙◌}
use Rattle.dd_solver.proofs.Winner.{up_counts, either_up, either_up-closed, either_up-within}
use Rattle.dd_solver.proofs.answer.with_up.Goals as goal

pub returns-then-has-clause-value : goal.returns-then-has-clause-value
returns-then-has-clause-value c d low = up_counts c.args.cards c.args.card c.requires (sym c.has.ensures.value ∙ c.if-has.true) d low

pub returns-else-has-clause-closed : goal.returns-else-has-clause-closed
returns-else-has-clause-closed c = either_up-closed c.args.cards c.up_from.result c.either.result c.args.card c.up_from.ensures c.either.ensures.value c.requires

pub returns-else-has-clause-within : goal.returns-else-has-clause-within
returns-else-has-clause-within c = either_up-within c.args.cards c.up_from.result c.either.result c.args.card c.up_from.ensures c.either.ensures.value c.has.ensures.a_set

pub returns-else-has-clause-value : goal.returns-else-has-clause-value
returns-else-has-clause-value c = either_up c.args.cards c.up_from.result c.either.result c.args.card c.up_from.ensures c.either.ensures.value
