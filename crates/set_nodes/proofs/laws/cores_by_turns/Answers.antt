use Rattle.set_nodes.proofs.Won.{cores}
use Rattle.set_nodes.proofs.laws.cores_by_turns.Goals as goal

pub returns : goal.returns
returns c = cores
