use Rattle.equivalent_positions.proofs.Answers.{more_cards_give_the_answer}
use Rattle.equivalent_positions.proofs.laws.an_answer_is_passed_on.Goals as goal

pub returns-clause-card : goal.returns-clause-card
returns-clause-card c = more_cards_give_the_answer
