use Rattle.win_vectors.proofs.Orders.{Precedes-irrefl, Precedes-trans, Precedes-cases, Dominates-precedes}
use Rattle.win_vectors.proofs.laws.printing_order_is_total.Goals as goal

pub returns : goal.returns
returns c = record { irreflexive = Precedes-irrefl; transitive = Precedes-trans; total = Precedes-cases; dominating_first = Dominates-precedes }
