use Rattle.std.proofs.Common.{◌≡◌, take}
use Rattle.front_table.proofs.stored_vectors.narrowed.Given as goal

abbrev pub invariant-loop-vector : goal.invariant-loop-vector
invariant-loop-vector l = l.stored.items ≡ take l.vector-index l.vectors
