-- What is assured is won.
use Rattle.assured_games.proofs.assured_is_won.Goals as goal
use Rattle.assured_games.proofs.Between.{bracketed}

pub returns : goal.returns
returns g c = bracketed g.G.AssuredGame.game g.G.AssuredGame.sure g.G.AssuredGame.Sound g.G.AssuredGame.lawful g.G.AssuredGame.played_out g.G.AssuredGame.sure_of_all
