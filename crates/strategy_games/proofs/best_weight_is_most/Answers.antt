-- The best and the named card by weights.
use Rattle.strategy_games.proofs.best_weight_is_most.Goals as goal
use Rattle.strategy_games.proofs.WeightedChoice.{best_weight}

pub returns : goal.returns
returns g c = best_weight g.G.HiddenGame.game g.G.HiddenGame.Sound g.G.HiddenGame.lawful g.G.HiddenGame.settled
