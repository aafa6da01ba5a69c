use Rattle.sure_nodes.proofs.SureBridge.{bracketed}
use Rattle.sure_nodes.proofs.laws.assured_is_won.Goals as goal

pub returns : goal.returns
returns c = bracketed
