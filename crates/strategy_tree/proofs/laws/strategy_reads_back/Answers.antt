use Rattle.strategy_tree.proofs.Printing.{printed_plan}
use Rattle.strategy_tree.proofs.laws.strategy_reads_back.Goals as goal

pub returns : goal.returns
returns c = printed_plan
