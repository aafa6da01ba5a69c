use Rattle.given_up.proofs.Given as given
use Rattle.given_up.proofs.laws.declarers_side_gives_up.Goals as goal

pub returns : goal.returns
returns c = given.declarers_side_gives_up
