use Rattle.strategy_tree.proofs.BridgeLaws as laws
use Rattle.strategy_tree.proofs.laws.best_count.Goals as goal

pub returns : goal.returns
returns c = laws.best_count
