-- Complete plans.
use Rattle.strategy_games.proofs.complete_plans_are_exact.Goals as goal
use Rattle.strategy_games.proofs.Complete.{exactness}

pub returns : goal.returns
returns g c = exactness g.G.HiddenGame.game g.G.HiddenGame.Sound g.G.HiddenGame.lawful g.G.HiddenGame.double_dummy
