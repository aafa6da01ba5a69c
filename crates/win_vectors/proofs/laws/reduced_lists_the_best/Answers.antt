use Rattle.win_vectors.proofs.Reduction.{reduced-lists_the_best}
use Rattle.win_vectors.proofs.laws.reduced_lists_the_best.Goals as goal

pub returns : goal.returns
returns c = reduced-lists_the_best
