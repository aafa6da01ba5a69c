use Rattle.equivalent_positions.proofs.Answers.{our_cards_answer_together, their_cards_answer_together}
use Rattle.equivalent_positions.proofs.laws.sure_cards_answer_together.Goals as goal

pub returns-clause-ours : goal.returns-clause-ours
returns-clause-ours c = λ counting s sure partners closed within more ok t side few. our_cards_answer_together counting s sure partners t.link t.card closed within more ok t.between t.no_trump t.own t.across t.linked t.there t.suit side few

pub returns-clause-theirs : goal.returns-clause-theirs
returns-clause-theirs c = λ counting s sure partners closed within more ok t side many. their_cards_answer_together counting s sure partners t.link t.card closed within more ok t.between t.no_trump t.own t.across t.linked t.there t.suit side many
