-- The named card.
use Rattle.strategy_games.proofs.named_card_wins.Goals as goal
use Rattle.strategy_games.proofs.Counts.{named_card}

pub returns : goal.returns
returns g c = named_card g.G.HiddenGame.game g.G.HiddenGame.Sound g.G.HiddenGame.lawful g.G.HiddenGame.settled
