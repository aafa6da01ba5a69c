use Rattle.sure_tricks.proofs.Together.{our_cards_win_together, their_cards_win_together}
use Rattle.sure_tricks.proofs.laws.sure_cards_win_together.Goals as goal

pub returns-clause-ours : goal.returns-clause-ours
returns-clause-ours c = λ s sure partners ok t side few. our_cards_win_together s sure partners t.link t.card ok t.between t.no_trump t.own t.across t.linked t.there t.suit side few

pub returns-clause-theirs : goal.returns-clause-theirs
returns-clause-theirs c = λ s sure partners ok t side many. their_cards_win_together s sure partners t.link t.card ok t.between t.no_trump t.own t.across t.linked t.there t.suit side many
