use Rattle.set_nodes.proofs.Won.{sets}
use Rattle.set_nodes.proofs.laws.winnable_sets.Goals as goal

pub returns : goal.returns
returns c = sets
