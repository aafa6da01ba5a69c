use Rattle.strategy_tree.proofs.BridgeLaws as laws
use Rattle.strategy_tree.proofs.laws.tree_size_monotone.Goals as goal

pub returns : goal.returns
returns c = laws.sizes.monotone
