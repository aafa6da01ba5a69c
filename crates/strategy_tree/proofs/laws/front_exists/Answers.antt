use Rattle.strategy_tree.proofs.BridgeLaws as laws
use Rattle.strategy_tree.proofs.laws.front_exists.Goals as goal

pub returns-clause-exists : goal.returns-clause-exists
returns-clause-exists c = laws.one_front.exists

pub returns-clause-filled : goal.returns-clause-filled
returns-clause-filled c = laws.one_front.filled
