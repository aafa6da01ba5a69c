use Rattle.win_vectors.proofs.Reduction.{reduced-ignores_order}
use Rattle.win_vectors.proofs.laws.reduced_ignores_order.Goals as goal

pub returns : goal.returns
returns c = reduced-ignores_order
