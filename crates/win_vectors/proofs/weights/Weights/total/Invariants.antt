use Rattle.std.proofs.Common.{◌≡◌, ◌≤◌, ◌*◌, take}
use Rattle.win_vectors.specs.Weights.{weight_of}
use Rattle.win_vectors.proofs.weights.Weights.total.Given as goal

abbrev pub invariant-loop-place : goal.invariant-loop-place
invariant-loop-place l = record {
  so_far : l.total ≡ weight_of (take l.place l.self-inside.weights) (take l.place l.vector);
  most : l.total ≤ 1000000 * l.place;
}
