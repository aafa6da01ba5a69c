use Rattle.std.proofs.Common.{◌≡◌, take}
use Rattle.win_vectors.specs.Fronts.{IsReduced}
use Rattle.log_check.proofs.best.front_of.Given as goal

abbrev pub invariant-loop-vector : goal.invariant-loop-vector
invariant-loop-vector l = record {
  width : l.front.width ≡ l.width;
  reduced : IsReduced (take l.vector-index l.vectors) l.front.vectors;
}
