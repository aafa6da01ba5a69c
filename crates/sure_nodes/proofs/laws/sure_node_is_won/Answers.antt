use Rattle.sure_nodes.proofs.SureBridge.{sure_of_all}
use Rattle.sure_nodes.proofs.laws.sure_node_is_won.Goals as goal

pub returns : goal.returns
returns c = sure_of_all
