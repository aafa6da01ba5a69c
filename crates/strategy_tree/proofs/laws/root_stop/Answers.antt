use Rattle.strategy_tree.proofs.BridgeLaws as laws
use Rattle.strategy_tree.proofs.laws.root_stop.Goals as goal

pub returns-clause-same_front : goal.returns-clause-same_front
returns-clause-same_front c = laws.cuts.same_front

pub returns-clause-same_count : goal.returns-clause-same_count
returns-clause-same_count c = laws.cuts.same_count
