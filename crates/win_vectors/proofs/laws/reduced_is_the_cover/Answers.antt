use Rattle.win_vectors.proofs.Reduction.{reduced-is_the_cover}
use Rattle.win_vectors.proofs.laws.reduced_is_the_cover.Goals as goal

pub returns : goal.returns
returns c = reduced-is_the_cover
