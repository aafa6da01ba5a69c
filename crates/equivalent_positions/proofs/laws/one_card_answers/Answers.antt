use Rattle.equivalent_positions.proofs.Answers.{one_card_answers}
use Rattle.equivalent_positions.proofs.laws.one_card_answers.Goals as goal

pub returns : goal.returns
returns c = one_card_answers
