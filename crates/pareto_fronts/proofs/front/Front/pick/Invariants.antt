use Rattle.std.proofs.Common.{All, take}
use Rattle.win_vectors.specs.Fronts.{Dominates}
use Rattle.pareto_fronts.proofs.front.Front.pick.Given as goal

abbrev pub invariant-loop-mine : goal.invariant-loop-mine
invariant-loop-mine l = All (λ mine. ¬ Dominates mine l.target) (take l.mine-index l.mine-items)
