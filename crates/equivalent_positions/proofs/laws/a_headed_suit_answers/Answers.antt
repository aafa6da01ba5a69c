use Rattle.equivalent_positions.proofs.Headed.{our_headed_suit_answers, their_headed_suit_answers}
use Rattle.equivalent_positions.proofs.laws.a_headed_suit_answers.Goals as goal

pub returns-clause-ours : goal.returns-clause-ours
returns-clause-ours c = our_headed_suit_answers

pub returns-clause-theirs : goal.returns-clause-theirs
returns-clause-theirs c = their_headed_suit_answers
