use Rattle.std.proofs.Common.{◌≡◌, map, take}
use Rattle.win_vectors.specs.Vectors.{ones_of, restrict_of}
use Rattle.win_vectors.specs.Fronts.{IsReduced}
use Rattle.alphamu_core.proofs.part.restricted.Given as goal

abbrev pub invariant-loop-place : goal.invariant-loop-place
invariant-loop-place l = record {
  width : l.part.width ≡ ones_of l.kept;
  best : IsReduced (map (λ v. restrict_of v l.kept) (take l.place l.front.vectors)) l.part.vectors;
}
