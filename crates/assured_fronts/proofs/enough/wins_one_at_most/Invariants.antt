use Rattle.std.proofs.Common.{◌<◌, All, take}
use Rattle.win_vectors.specs.Vectors.{ones_of, restrict_of}
use Rattle.assured_fronts.proofs.enough.wins_one_at_most.Given as goal

abbrev pub invariant-loop-vector : goal.invariant-loop-vector
invariant-loop-vector l = All (λ v. ones_of (restrict_of v l.mask) < 2) (take l.vector-index l.vector-items)
