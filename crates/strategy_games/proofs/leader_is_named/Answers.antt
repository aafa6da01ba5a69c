-- The leader of a loop over cards.
use Rattle.strategy_games.proofs.leader_is_named.Goals as goal
use Rattle.strategy_games.proofs.Leaders.{leaders}

pub returns : goal.returns
returns g c = λ measure monotone. leaders g.G.HiddenGame.game measure g.G.HiddenGame.Sound g.G.HiddenGame.lawful monotone g.G.HiddenGame.settled g.G.HiddenGame.double_dummy
