use Rattle.winnable_sets.proofs.winnable_sets.Goals as goal
use Rattle.winnable_sets.proofs.Sets.{sets}

pub returns : goal.returns
returns g c = sets g.G.SetGame.game g.G.SetGame.Sound g.G.SetGame.lawful g.G.SetGame.double_dummy g.G.SetGame.played_out
