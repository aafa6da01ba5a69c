-- The bracket round the best.
use Rattle.assured_games.proofs.best_lies_in_the_bracket.Goals as goal
use Rattle.assured_games.proofs.Between.{bracket}

pub returns : goal.returns
returns g c = λ measure monotone. bracket g.G.AssuredGame.game g.G.AssuredGame.sure g.G.AssuredGame.Sound g.G.AssuredGame.lawful g.G.AssuredGame.played_out g.G.AssuredGame.sure_of_all g.G.AssuredGame.double_dummy measure monotone
