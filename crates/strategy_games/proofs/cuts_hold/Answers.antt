-- Where a search may stop early.
use Rattle.strategy_games.proofs.cuts_hold.Goals as goal
use Rattle.strategy_games.proofs.Cuts.{cuts}

pub returns : goal.returns
returns g c = cuts g.G.HiddenGame.game g.G.HiddenGame.Sound g.G.HiddenGame.lawful g.G.HiddenGame.double_dummy g.G.HiddenGame.settled
