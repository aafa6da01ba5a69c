use Rattle.winnable_sets.proofs.winnable_by_turns.Goals as goal
use Rattle.winnable_sets.proofs.Turns.{turns}

pub returns : goal.returns
returns g c = turns g.G.SetGame.game g.G.SetGame.Sound g.G.SetGame.lawful
