use Rattle.equivalent_positions.proofs.Counting.{no_card_is_closed_up, a_card_and_all_higher, both_are_closed_up}
use Rattle.equivalent_positions.proofs.laws.sets_that_are_closed_up.Goals as goal

pub returns-clause-none : goal.returns-clause-none
returns-clause-none c = no_card_is_closed_up

pub returns-clause-higher : goal.returns-clause-higher
returns-clause-higher c = a_card_and_all_higher

pub returns-clause-both : goal.returns-clause-both
returns-clause-both c = both_are_closed_up
