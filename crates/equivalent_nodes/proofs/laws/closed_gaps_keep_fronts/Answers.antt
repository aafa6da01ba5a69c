use Rattle.equivalent_nodes.proofs.Closing.{closed_gaps}
use Rattle.equivalent_nodes.proofs.laws.closed_gaps_keep_fronts.Goals as goal

pub returns : goal.returns
returns c n gaps ok none set free = (closed_gaps gaps n ok none set free).equivalent
