use Rattle.equivalent_positions.proofs.Counting.{the_winner_settles_its_trick}
use Rattle.equivalent_positions.proofs.laws.the_winner_settles_its_trick.Goals as goal

pub returns : goal.returns
returns c = the_winner_settles_its_trick
