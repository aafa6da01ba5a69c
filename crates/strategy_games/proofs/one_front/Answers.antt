-- Each node has exactly one front.
use Rattle.strategy_games.proofs.one_front.Goals as goal
use Rattle.strategy_games.proofs.Nodes.{one_front}

pub returns : goal.returns
returns g c = one_front g.G.HiddenGame.game g.G.HiddenGame.Sound g.G.HiddenGame.lawful
