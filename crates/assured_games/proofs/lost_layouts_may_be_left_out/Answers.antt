-- What is assured without the layouts that are lost.
use Rattle.assured_games.proofs.lost_layouts_may_be_left_out.Goals as goal
use Rattle.assured_games.proofs.Made.{lost_out}

pub returns : goal.returns
returns g c = lost_out g.G.NodesInPart.game g.G.NodesInPart.sure g.G.NodesInPart.Sound g.G.NodesInPart.lawful g.G.NodesInPart.double_dummy g.G.NodesInPart.played_out g.G.NodesInPart.sure_of_all g.G.NodesInPart.in_part g.G.NodesInPart.leaves_out
