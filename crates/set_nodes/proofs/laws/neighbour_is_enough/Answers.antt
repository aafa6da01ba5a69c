use Rattle.set_nodes.proofs.Neighbours.{neighbour_is_enough}
use Rattle.set_nodes.proofs.laws.neighbour_is_enough.Goals as goal

pub returns : goal.returns
returns c = neighbour_is_enough
