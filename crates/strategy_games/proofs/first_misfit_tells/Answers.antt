-- A plan has no first misfit exactly where it fits.
use Rattle.strategy_games.proofs.first_misfit_tells.Goals as goal
use Rattle.strategy_games.proofs.Faults.{misfits}

pub returns : goal.returns
returns g c = misfits g.G.HiddenGame.game g.G.HiddenGame.same g.G.HiddenGame.tells_cards
