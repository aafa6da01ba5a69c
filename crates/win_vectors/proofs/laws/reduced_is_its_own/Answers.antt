use Rattle.win_vectors.proofs.Reduction.{reduced-its_own}
use Rattle.win_vectors.proofs.laws.reduced_is_its_own.Goals as goal

pub returns : goal.returns
returns c = reduced-its_own
