use Rattle.winnable_sets.proofs.other_layouts_may_be_left_out.Goals as goal
use Rattle.winnable_sets.proofs.Parts.{parts}

pub returns : goal.returns
returns g c = parts g.G.SetGame.game g.G.SetGame.Sound g.G.SetGame.lawful g.G.SetGame.in_part g.G.SetGame.parts
