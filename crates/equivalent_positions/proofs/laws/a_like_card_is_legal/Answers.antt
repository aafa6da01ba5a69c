use Rattle.equivalent_positions.proofs.Cards.{a_like_card_is_legal}
use Rattle.equivalent_positions.proofs.laws.a_like_card_is_legal.Goals as goal

pub returns : goal.returns
returns c = a_like_card_is_legal
