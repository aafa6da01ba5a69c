use Rattle.dd_solver.proofs.NeedsAll.{highest_is}
use Rattle.dd_solver.proofs.needs_all.highest_in.Goals as goal

pub returns : goal.returns
returns c = highest_is c.args.set c.of_suit.result c.args.suit c.last.result c.of_suit.ensures.value c.last.ensures.value
