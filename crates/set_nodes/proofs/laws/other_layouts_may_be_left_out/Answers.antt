use Rattle.set_nodes.proofs.Won.{won_set}
use Rattle.set_nodes.proofs.laws.other_layouts_may_be_left_out.Goals as goal

pub returns : goal.returns
returns c = won_set
