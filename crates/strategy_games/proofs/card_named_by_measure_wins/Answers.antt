-- The card that is named by a monotone measure.
use Rattle.strategy_games.proofs.card_named_by_measure_wins.Goals as goal
use Rattle.strategy_games.proofs.Measures.{named_by}

pub returns : goal.returns
returns g c = λ measure monotone. named_by g.G.HiddenGame.game measure g.G.HiddenGame.Sound g.G.HiddenGame.lawful g.G.HiddenGame.settled monotone
