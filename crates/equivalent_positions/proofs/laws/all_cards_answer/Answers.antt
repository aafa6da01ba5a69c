use Rattle.equivalent_positions.proofs.Answers.{all_cards_answer}
use Rattle.equivalent_positions.proofs.laws.all_cards_answer.Goals as goal

pub returns : goal.returns
returns c = all_cards_answer
