use Rattle.equivalent_positions.proofs.Enough.{one_of_equals_answers}
use Rattle.equivalent_positions.proofs.laws.one_of_equals_answers.Goals as goal

pub returns : goal.returns
returns c = one_of_equals_answers
