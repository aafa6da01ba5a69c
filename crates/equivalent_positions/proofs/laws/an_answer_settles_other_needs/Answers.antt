use Rattle.std.proofs.Common.{true, false}
use Rattle.equivalent_positions.proofs.Needs.{another_need_keeps_states_alike, an_answer_settles_other_needs}
use Rattle.equivalent_positions.proofs.laws.an_answer_settles_other_needs.Goals as goal

pub returns-clause-alike : goal.returns-clause-alike
returns-clause-alike c = another_need_keeps_states_alike

pub returns-clause-lower : goal.returns-clause-lower
returns-clause-lower c = λ counting s need ok low answer. an_answer_settles_other_needs counting s true need ok answer low

pub returns-clause-higher : goal.returns-clause-higher
returns-clause-higher c = λ counting s need ok high fits answer. an_answer_settles_other_needs counting s false need ok answer (high, fits)
