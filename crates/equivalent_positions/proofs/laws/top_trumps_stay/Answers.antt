use Rattle.equivalent_positions.proofs.Answers.{top_trumps_stay}
use Rattle.equivalent_positions.proofs.laws.top_trumps_stay.Goals as goal

pub returns : goal.returns
returns c = top_trumps_stay
