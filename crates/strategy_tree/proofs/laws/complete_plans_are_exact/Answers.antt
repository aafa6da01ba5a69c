use Rattle.strategy_tree.proofs.BridgeLaws as laws
use Rattle.strategy_tree.proofs.laws.complete_plans_are_exact.Goals as goal

pub returns-clause-complete : goal.returns-clause-complete
returns-clause-complete c = laws.exactness.complete

pub returns-clause-chosen : goal.returns-clause-chosen
returns-clause-chosen c = laws.exactness.chosen
