use Rattle.std.proofs.Common.{◌≡◌, ℕ, ◌<◌, ◌≤◌, Some, length}
use Rattle.std.specs.Prelude.{slice_get}
use Rattle.win_vectors.specs.Fronts.{Vector}
use Rattle.win_vectors.specs.Weights.{weight_of}
use Rattle.vector_words.proofs.best.first_best.Given as goal

abbrev pub invariant-loop-place : goal.invariant-loop-place
invariant-loop-place l = record {
  at : ℕ;
  here : slice_get l.front.vectors at ≡ Some l.best;
  heaviest : (other : ℕ) (v : Vector) → other < l.place → slice_get l.front.vectors other ≡ Some v → weight_of l.weights v ≤ l.most;
  first : (other : ℕ) (v : Vector) → other < at → slice_get l.front.vectors other ≡ Some v → weight_of l.weights v < l.most;
  weighs : l.most ≡ weight_of l.weights l.best;
}
