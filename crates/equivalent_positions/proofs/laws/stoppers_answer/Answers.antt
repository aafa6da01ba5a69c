use Rattle.equivalent_positions.proofs.Stoppers.{our_failure_answers, their_failure_answers}
use Rattle.equivalent_positions.proofs.laws.stoppers_answer.Goals as goal

pub returns-clause-ours : goal.returns-clause-ours
returns-clause-ours c = λ counting s stoppers closed within ok none no_trump are side all. our_failure_answers counting s stoppers closed within ok none no_trump are side all

pub returns-clause-theirs : goal.returns-clause-theirs
returns-clause-theirs c = λ counting s stoppers closed within ok none no_trump are side one. their_failure_answers counting s stoppers closed within ok none no_trump are side one
