use Rattle.equivalent_positions.proofs.Answers.{our_top_trumps_answer, their_top_trumps_answer}
use Rattle.equivalent_positions.proofs.laws.top_trumps_answer.Goals as goal

pub returns-clause-ours : goal.returns-clause-ours
returns-clause-ours c = our_top_trumps_answer

pub returns-clause-theirs : goal.returns-clause-theirs
returns-clause-theirs c = their_top_trumps_answer
