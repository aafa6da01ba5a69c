-- Double dummy makes what is assured.
use Rattle.assured_games.proofs.double_dummy_bounds_the_assured.Goals as goal
use Rattle.assured_games.proofs.Made.{within_made}

pub returns : goal.returns
returns g c = within_made g.G.AssuredGame.game g.G.AssuredGame.sure g.G.AssuredGame.Sound g.G.AssuredGame.lawful g.G.AssuredGame.double_dummy g.G.AssuredGame.played_out g.G.AssuredGame.sure_of_all
