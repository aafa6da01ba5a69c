use Rattle.win_vectors.proofs.Orders.{restrict_of-spread_of, Dominates-spread_of}
use Rattle.win_vectors.proofs.laws.spread_undoes_restrict.Goals as goal

pub returns : goal.returns
returns c = record { restricted = restrict_of-spread_of; dominates = Dominates-spread_of }
