-- Some of a node's choices are enough.
use Rattle.strategy_games.proofs.some_cards_are_enough.Goals as goal
use Rattle.strategy_games.proofs.Enough.{enough_cards}

pub returns : goal.returns
returns g c = enough_cards g.G.HiddenGame.game g.G.HiddenGame.Sound g.G.HiddenGame.lawful g.G.HiddenGame.settled
