use Rattle.front_join.proofs.JoinLemmas.{Gathers}
use Rattle.front_join.proofs.joiner.insert_meets.Given as goal

abbrev pub invariant-loop-mine : goal.invariant-loop-mine
invariant-loop-mine l = Gathers l.fn.best l.vectors l.vector l.mine-index l.best
