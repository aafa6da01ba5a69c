-- Each strategy ends somewhere in each layout.
use Rattle.strategy_games.proofs.strategy_ends.Goals as goal
use Rattle.strategy_games.proofs.Nodes.{each_strategy_ends}

pub returns : goal.returns
returns g c = each_strategy_ends g.G.HiddenGame.game g.G.HiddenGame.Sound g.G.HiddenGame.lawful g.G.HiddenGame.settled
