use Rattle.win_vectors.proofs.Orders.{Dominates-refl, Dominates-trans, Dominates-antisym}
use Rattle.win_vectors.proofs.laws.dominance_is_partial_order.Goals as goal

pub returns : goal.returns
returns c = record { reflexive = Dominates-refl; transitive = Dominates-trans; antisymmetric = Dominates-antisym }
