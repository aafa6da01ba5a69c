use Rattle.front_join.proofs.JoinLemmas.{Joins}
use Rattle.front_join.proofs.joiner.joined_front.Given as goal

abbrev pub invariant-loop-vector : goal.invariant-loop-vector
invariant-loop-vector l = Joins l.front.vectors l.vector-items l.mask l.vector-index l.front.width l.best
