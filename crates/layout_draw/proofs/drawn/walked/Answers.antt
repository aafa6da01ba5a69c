use Rattle.std.proofs.Common.{arith}
use Rattle.layout_draw.proofs.Walked.{length-hands_few}
use Rattle.layout_draw.proofs.drawn.walked.Goals as goal

pub walk-requires-clause-room : goal.walk-requires-clause-room
walk-requires-clause-room c = let few = length-hands_few c.args.choices.now.free c.args.choices.now.wanted c.requires.few in omega (arith, few)
