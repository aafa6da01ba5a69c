use Rattle.win_vectors.proofs.Reduction.{reduced-of_part}
use Rattle.win_vectors.proofs.laws.reduced_of_reduced_part.Goals as goal

pub returns : goal.returns
returns c = reduced-of_part
