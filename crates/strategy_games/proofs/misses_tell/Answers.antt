-- The vectors that miss a 1.
use Rattle.strategy_games.proofs.misses_tell.Goals as goal
use Rattle.strategy_games.proofs.Misses.{misses_tell}

pub returns : goal.returns
returns g c = misses_tell g.G.HiddenGame.game g.G.HiddenGame.Sound g.G.HiddenGame.lawful
