use Rattle.winnable_sets.proofs.cores_by_turns.Goals as goal
use Rattle.winnable_sets.proofs.Turns.{cores}

pub returns : goal.returns
returns g c = cores g.G.SetGame.game g.G.SetGame.Sound g.G.SetGame.lawful g.G.SetGame.double_dummy
