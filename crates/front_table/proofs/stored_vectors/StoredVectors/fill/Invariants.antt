use Rattle.front_table.proofs.Filling.{IsFilled}
use Rattle.front_table.proofs.stored_vectors.StoredVectors.fill.Given as goal

abbrev pub invariant-loop-vector : goal.invariant-loop-vector
invariant-loop-vector l = IsFilled l.vectors l.initial.out l.vector-index l.out
