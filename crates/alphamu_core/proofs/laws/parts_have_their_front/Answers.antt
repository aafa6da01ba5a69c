use Rattle.alphamu_core.proofs.Parts.{parts_have_their_front}
use Rattle.alphamu_core.proofs.laws.parts_have_their_front.Goals as goal

pub returns : goal.returns
returns c = parts_have_their_front
