use Rattle.strategy_tree.proofs.BridgeNodes.{stopped}
use Rattle.strategy_tree.proofs.BridgeLaws as laws
use Rattle.strategy_tree.proofs.laws.front_at_stop.Goals as goal

pub returns : goal.returns
returns c = λ n moves stop. laws.recursion.at_stop n moves (stopped n moves stop)
