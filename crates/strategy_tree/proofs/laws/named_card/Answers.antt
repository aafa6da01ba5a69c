use Rattle.strategy_tree.proofs.BridgeNodes.{live}
use Rattle.strategy_tree.proofs.BridgeLaws as laws
use Rattle.strategy_tree.proofs.laws.named_card.Goals as goal

pub returns-clause-exists : goal.returns-clause-exists
returns-clause-exists c = laws.named_card.exists

pub returns-clause-unique : goal.returns-clause-unique
returns-clause-unique c = laws.named_card.unique

pub returns-clause-wins : goal.returns-clause-wins
returns-clause-wins c = λ n moves card sound none. laws.named_card.wins n moves card sound (live n none)

pub returns-clause-decided : goal.returns-clause-decided
returns-clause-decided c = laws.named_card.decided
