use Rattle.equivalent_positions.proofs.Likes.{alike_tricks, alike_decided}
use Rattle.equivalent_positions.proofs.laws.alike_states_are_decided_alike.Goals as goal

pub returns-clause-tricks : goal.returns-clause-tricks
returns-clause-tricks c = alike_tricks

pub returns-clause-result : goal.returns-clause-result
returns-clause-result c = alike_decided
