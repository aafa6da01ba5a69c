use Rattle.strategy_tree.proofs.BridgeLaws as laws
use Rattle.strategy_tree.proofs.laws.chosen_plan_wins.Goals as goal

pub returns : goal.returns
returns c = laws.chosen_plan
