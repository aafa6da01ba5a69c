use Rattle.layout_maker.proofs.MadeAccepted.{accepted}
use Rattle.layout_maker.proofs.made.made_problems_are_accepted.Goals as goal

pub returns : goal.returns
returns c = accepted
