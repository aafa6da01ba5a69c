use Rattle.sure_tricks.proofs.TopTrumps.{our_top_trumps_win, their_top_trumps_win}
use Rattle.sure_tricks.proofs.laws.top_trumps_win.Goals as goal

pub returns-clause-ours : goal.returns-clause-ours
returns-clause-ours c = our_top_trumps_win

pub returns-clause-theirs : goal.returns-clause-theirs
returns-clause-theirs c = their_top_trumps_win
