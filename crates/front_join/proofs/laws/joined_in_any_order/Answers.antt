use Rattle.front_join.proofs.JoinLaws.{joined-in_any_order}
use Rattle.front_join.proofs.laws.joined_in_any_order.Goals as goal

pub returns : goal.returns
returns c = joined-in_any_order
