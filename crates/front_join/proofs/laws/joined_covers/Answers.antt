use Rattle.front_join.proofs.JoinLaws.{joined-covers}
use Rattle.front_join.proofs.laws.joined_covers.Goals as goal

pub returns : goal.returns
returns c = joined-covers
