use Rattle.strategy_tree.proofs.BridgeNodes.{front_at_defender}
use Rattle.strategy_tree.proofs.laws.front_at_defender.Goals as goal

pub returns : goal.returns
returns c = front_at_defender
