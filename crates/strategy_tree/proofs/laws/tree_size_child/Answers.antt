use Rattle.strategy_tree.proofs.BridgeNodes.{live}
use Rattle.strategy_tree.proofs.BridgeLaws as laws
use Rattle.strategy_tree.proofs.laws.tree_size_child.Goals as goal

pub returns-clause-at_declarer : goal.returns-clause-at_declarer
returns-clause-at_declarer c = λ n moves card sound none. laws.sizes.declarers_child n moves card sound (live n none)

pub returns-clause-at_defender : goal.returns-clause-at_defender
returns-clause-at_defender c = λ n moves card sound none. laws.sizes.defenders_child n moves card sound (live n none)
