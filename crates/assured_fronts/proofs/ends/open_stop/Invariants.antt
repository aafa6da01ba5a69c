use Rattle.std.proofs.Common.{◌≡◌, length}
use Rattle.win_vectors.specs.Fronts.{IsFrontOf}
use Rattle.assured_fronts.proofs.Leaves.{PlayedUpto}
use Rattle.assured_fronts.proofs.ends.open_stop.Given as goal

abbrev pub invariant-loop-place : goal.invariant-loop-place
invariant-loop-place l = record {
  width : l.front.width ≡ length l.node.lefts;
  so_far : IsFrontOf (PlayedUpto l.node l.place) l.front.vectors;
}
