use Rattle.set_nodes.proofs.Won.{turns}
use Rattle.set_nodes.proofs.laws.winnable_by_turns.Goals as goal

pub returns : goal.returns
returns c = turns
