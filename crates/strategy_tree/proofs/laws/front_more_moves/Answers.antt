use Rattle.strategy_tree.proofs.BridgeLaws as laws
use Rattle.strategy_tree.proofs.laws.front_more_moves.Goals as goal

pub returns : goal.returns
returns c = laws.more_moves
