use Rattle.strategy_tree.proofs.BridgeLaws as laws
use Rattle.strategy_tree.proofs.laws.strategy_ends.Goals as goal

pub returns : goal.returns
returns c = laws.strategy_ends
