use Rattle.sure_nodes.proofs.PlayedOut.{played_out}
use Rattle.sure_nodes.proofs.laws.played_out.Goals as goal

pub returns : goal.returns
returns c = played_out
