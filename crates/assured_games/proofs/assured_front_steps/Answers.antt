-- The assured front card by card.
use Rattle.assured_games.proofs.assured_front_steps.Goals as goal
use Rattle.assured_games.proofs.Steps.{assured_steps}

pub returns : goal.returns
returns g c = assured_steps g.G.AssuredGame.game g.G.AssuredGame.sure g.G.AssuredGame.Sound g.G.AssuredGame.lawful g.G.AssuredGame.double_dummy g.G.AssuredGame.sure_of_all
