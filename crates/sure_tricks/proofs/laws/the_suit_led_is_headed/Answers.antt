use Rattle.sure_tricks.proofs.Headed.{our_headed_suit_wins, their_headed_suit_wins}
use Rattle.sure_tricks.proofs.laws.the_suit_led_is_headed.Goals as goal

pub returns-clause-ours : goal.returns-clause-ours
returns-clause-ours c = our_headed_suit_wins

pub returns-clause-theirs : goal.returns-clause-theirs
returns-clause-theirs c = their_headed_suit_wins
