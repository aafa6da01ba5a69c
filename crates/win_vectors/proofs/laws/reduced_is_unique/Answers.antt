use Rattle.win_vectors.proofs.Reduction.{reduced-unique}
use Rattle.win_vectors.proofs.laws.reduced_is_unique.Goals as goal

pub returns : goal.returns
returns c = reduced-unique
