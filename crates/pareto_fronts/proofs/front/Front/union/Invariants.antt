use Rattle.pareto_fronts.proofs.FrontLemmas.{Unites}
use Rattle.pareto_fronts.proofs.front.Front.union.Given as goal

abbrev pub invariant-loop-vector : goal.invariant-loop-vector
invariant-loop-vector l = Unites l.fn.self l.vector-items l.vector-index l.self
