-- Exactly one plan is chosen, and it wins the first vector above the target.
use Rattle.strategy_games.proofs.chosen_plan_wins.Goals as goal
use Rattle.strategy_games.proofs.Chosen.{chosen_plan}

pub returns : goal.returns
returns g c = chosen_plan g.G.HiddenGame.game g.G.HiddenGame.Sound g.G.HiddenGame.lawful
