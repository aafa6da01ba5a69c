-- Alike nodes have one front.
use Rattle.strategy_games.proofs.alike_nodes_have_one_front.Goals as goal
use Rattle.strategy_games.proofs.Alike.{alike_law}

pub returns : goal.returns
returns g c = alike_law g.G.AlikeNodes.game g.G.AlikeNodes.Sound g.G.AlikeNodes.lawful g.G.AlikeNodes.alike g.G.AlikeNodes.kept
