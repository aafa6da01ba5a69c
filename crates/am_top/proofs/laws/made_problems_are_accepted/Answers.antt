use Rattle.am_top.proofs.MadeAccepted.{made-accepted}
use Rattle.am_top.proofs.laws.made_problems_are_accepted.Goals as goal

pub returns : goal.returns
returns c = made-accepted
