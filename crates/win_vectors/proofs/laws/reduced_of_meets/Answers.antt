use Rattle.win_vectors.proofs.Reduction.{reduced-of_meets}
use Rattle.win_vectors.proofs.laws.reduced_of_meets.Goals as goal

pub returns : goal.returns
returns c = reduced-of_meets
