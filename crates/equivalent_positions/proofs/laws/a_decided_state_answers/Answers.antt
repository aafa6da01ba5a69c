use Rattle.equivalent_positions.proofs.Answers.{a_decided_state_answers}
use Rattle.equivalent_positions.proofs.laws.a_decided_state_answers.Goals as goal

pub returns : goal.returns
returns c = a_decided_state_answers
