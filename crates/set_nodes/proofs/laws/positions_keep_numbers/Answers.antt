use Rattle.set_nodes.proofs.Numbers.{keeps_numbers}
use Rattle.set_nodes.proofs.laws.positions_keep_numbers.Goals as goal

pub returns : goal.returns
returns c = keeps_numbers
