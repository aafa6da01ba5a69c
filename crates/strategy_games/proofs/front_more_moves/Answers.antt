-- A move more wins no new vector.
use Rattle.strategy_games.proofs.front_more_moves.Goals as goal
use Rattle.strategy_games.proofs.Cuts.{more_moves_law}

pub returns : goal.returns
returns g c = more_moves_law g.G.HiddenGame.game g.G.HiddenGame.Sound g.G.HiddenGame.lawful g.G.HiddenGame.double_dummy
