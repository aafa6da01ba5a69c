use Rattle.strategy_tree.proofs.BridgeLaws as laws
use Rattle.strategy_tree.proofs.BridgeNodes.{misses_below}
use Rattle.strategy_tree.proofs.laws.misses_tell.Goals as goal

pub returns-clause-tell : goal.returns-clause-tell
returns-clause-tell c = laws.misses_tell.tell

pub returns-clause-below : goal.returns-clause-below
returns-clause-below c = misses_below
