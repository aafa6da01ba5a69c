use Rattle.card_forms.proofs.Chain.{come_to_the_same}
use Rattle.card_forms.proofs.laws.equals_come_to_the_same.Goals as goal

pub returns : goal.returns
returns c = come_to_the_same
