-- The recursion card by card.
use Rattle.strategy_games.proofs.front_steps.Goals as goal
use Rattle.strategy_games.proofs.Nodes.{steps}

pub returns : goal.returns
returns g c = steps g.G.HiddenGame.game g.G.HiddenGame.Sound g.G.HiddenGame.lawful g.G.HiddenGame.settled
