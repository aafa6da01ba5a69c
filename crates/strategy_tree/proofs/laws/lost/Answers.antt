use Rattle.strategy_tree.proofs.BridgeNodes.{lost}
use Rattle.strategy_tree.proofs.laws.lost.Goals as goal

pub returns : goal.returns
returns c = lost
