use Rattle.strategy_tree.proofs.BridgeLaws as laws
use Rattle.strategy_tree.proofs.laws.front_unique.Goals as goal

pub returns : goal.returns
returns c = laws.one_front.unique
