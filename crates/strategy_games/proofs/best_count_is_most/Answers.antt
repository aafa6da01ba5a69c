-- The best count.
use Rattle.strategy_games.proofs.best_count_is_most.Goals as goal
use Rattle.strategy_games.proofs.Counts.{best_count}

pub returns : goal.returns
returns g c = best_count g.G.HiddenGame.game g.G.HiddenGame.Sound g.G.HiddenGame.lawful g.G.HiddenGame.settled
