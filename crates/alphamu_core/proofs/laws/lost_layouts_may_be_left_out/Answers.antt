use Rattle.alphamu_core.proofs.Parts.{lost_layouts_may_be_left_out}
use Rattle.alphamu_core.proofs.laws.lost_layouts_may_be_left_out.Goals as goal

pub returns : goal.returns
returns c = lost_layouts_may_be_left_out
