use Rattle.strategy_tree.proofs.BridgeLaws as laws
use Rattle.strategy_tree.proofs.laws.front_at_declarer.Goals as goal

pub returns : goal.returns
returns c = laws.recursion.at_declarer
