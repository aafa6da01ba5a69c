-- The size of the tree.
use Rattle.strategy_games.proofs.tree_size_laws.Goals as goal
use Rattle.strategy_games.proofs.Sizes.{sizes}

pub returns : goal.returns
returns g c = sizes g.G.HiddenGame.game g.G.HiddenGame.Sound g.G.HiddenGame.lawful
