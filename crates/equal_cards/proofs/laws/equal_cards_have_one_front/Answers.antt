use Rattle.equal_cards.proofs.OneFront.{one_front}
use Rattle.equal_cards.proofs.laws.equal_cards_have_one_front.Goals as goal

pub returns : goal.returns
returns c = one_front
