use Rattle.equivalent_positions.proofs.Answers.{sure_cards_stay_sure}
use Rattle.equivalent_positions.proofs.laws.sure_cards_stay_sure.Goals as goal

pub returns : goal.returns
returns c = sure_cards_stay_sure
