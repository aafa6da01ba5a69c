use Rattle.winnable_sets.proofs.cores_bound_the_best.Goals as goal
use Rattle.winnable_sets.proofs.Sets.{set_bracket}

pub returns : goal.returns
returns g c = λ measure monotone. set_bracket g.G.SetGame.game g.G.SetGame.Sound g.G.SetGame.lawful measure monotone
