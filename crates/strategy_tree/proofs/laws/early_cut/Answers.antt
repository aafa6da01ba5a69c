use Rattle.strategy_tree.proofs.BridgeNodes.{live}
use Rattle.strategy_tree.proofs.BridgeLaws as laws
use Rattle.strategy_tree.proofs.laws.early_cut.Goals as goal

pub returns-clause-at_declarer : goal.returns-clause-at_declarer
returns-clause-at_declarer c = λ n moves alpha sound none. laws.cuts.at_declarer n moves alpha sound (live n none)

pub returns-clause-at_defender : goal.returns-clause-at_defender
returns-clause-at_defender c = λ n moves cards front alpha sound none. laws.cuts.at_defender n moves cards front alpha sound (live n none)
