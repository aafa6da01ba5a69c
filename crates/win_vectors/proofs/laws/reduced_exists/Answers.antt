use Rattle.win_vectors.proofs.Reduction.{reduced-exists}
use Rattle.win_vectors.proofs.laws.reduced_exists.Goals as goal

pub returns : goal.returns
returns c = reduced-exists
