use Rattle.sure_nodes.proofs.SureBridge.{bracket}
use Rattle.sure_nodes.proofs.laws.best_lies_in_the_bracket.Goals as goal

pub returns : goal.returns
returns c = bracket
