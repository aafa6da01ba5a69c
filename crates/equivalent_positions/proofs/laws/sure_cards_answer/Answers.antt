use Rattle.equivalent_positions.proofs.Answers.{our_sure_cards_answer, their_sure_cards_answer}
use Rattle.equivalent_positions.proofs.laws.sure_cards_answer.Goals as goal

pub returns-clause-ours : goal.returns-clause-ours
returns-clause-ours c = our_sure_cards_answer

pub returns-clause-theirs : goal.returns-clause-theirs
returns-clause-theirs c = their_sure_cards_answer
