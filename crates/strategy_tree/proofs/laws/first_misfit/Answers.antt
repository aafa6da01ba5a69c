use Rattle.strategy_tree.proofs.BridgeLaws as laws
use Rattle.strategy_tree.proofs.laws.first_misfit.Goals as goal

pub returns-clause-none : goal.returns-clause-none
returns-clause-none c = laws.first_misfit.none

pub returns-clause-within : goal.returns-clause-within
returns-clause-within c = laws.first_misfit.within
