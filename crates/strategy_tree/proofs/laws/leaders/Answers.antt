use Rattle.strategy_tree.proofs.BridgeLaws as laws
use Rattle.strategy_tree.proofs.laws.leaders.Goals as goal

pub returns : goal.returns
returns c = laws.leaders
