use Rattle.front_table.proofs.Filling.{IsFilled-reduced}
use Rattle.front_table.proofs.stored_vectors.fill_empty.Goals as goal

pub append-requires-clause-reduced : goal.append-requires-clause-reduced
append-requires-clause-reduced c =
    IsFilled-reduced c.args.vectors.now c.args.out.now c.loop-vector.vector-index c.vector-item.result c.loop-vector.out c.loop-vector-test.true c.vector-item.is c.loop-vector.invariant c.requires.reduced
