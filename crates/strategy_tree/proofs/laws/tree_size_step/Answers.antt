use Rattle.strategy_tree.proofs.BridgeNodes.{live, stopped}
use Rattle.strategy_tree.proofs.BridgeLaws as laws
use Rattle.strategy_tree.proofs.laws.tree_size_step.Goals as goal

pub returns-clause-at_stop : goal.returns-clause-at_stop
returns-clause-at_stop c = λ n moves stop. laws.sizes.at_stop n moves (stopped n moves stop)

pub returns-clause-at_declarer : goal.returns-clause-at_declarer
returns-clause-at_declarer c = λ n moves sound none. laws.sizes.at_declarer n moves sound (live n none)

pub returns-clause-at_defender : goal.returns-clause-at_defender
returns-clause-at_defender c = λ n moves sound none. laws.sizes.at_defender n moves sound (live n none)
