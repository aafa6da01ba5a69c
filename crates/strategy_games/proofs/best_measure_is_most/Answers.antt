-- The best by a monotone measure.
use Rattle.strategy_games.proofs.best_measure_is_most.Goals as goal
use Rattle.strategy_games.proofs.Measures.{best_by}

pub returns : goal.returns
returns g c = λ measure monotone. best_by g.G.HiddenGame.game measure g.G.HiddenGame.Sound g.G.HiddenGame.lawful g.G.HiddenGame.settled monotone
