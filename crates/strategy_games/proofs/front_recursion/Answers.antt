-- The recursion on fronts.
use Rattle.strategy_games.proofs.front_recursion.Goals as goal
use Rattle.strategy_games.proofs.Nodes.{recursion}

pub returns : goal.returns
returns g c = recursion g.G.HiddenGame.game g.G.HiddenGame.Sound g.G.HiddenGame.lawful g.G.HiddenGame.settled
