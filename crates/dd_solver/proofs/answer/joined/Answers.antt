use Rattle.dd_solver.proofs.Winner.{either-closed, either-first, either-second}
use Rattle.dd_solver.proofs.answer.joined.Goals as goal

pub returns-else-is_empty-2-clause-closed : goal.returns-else-is_empty-2-clause-closed
returns-else-is_empty-2-clause-closed c = either-closed c.args.these c.args.those c.either.result c.either.ensures.value c.requires.first c.requires.second

pub returns-else-is_empty-2-clause-first_within : goal.returns-else-is_empty-2-clause-first_within
returns-else-is_empty-2-clause-first_within c = either-first c.args.these c.args.those c.either.result c.either.ensures.value c.is_empty.ensures.a_set

pub returns-else-is_empty-2-clause-second_within : goal.returns-else-is_empty-2-clause-second_within
returns-else-is_empty-2-clause-second_within c = either-second c.args.these c.args.those c.either.result c.either.ensures.value c.is_empty-else-is_empty.ensures.a_set
