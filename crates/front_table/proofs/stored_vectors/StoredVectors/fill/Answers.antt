use Rattle.std.proofs.Common.{◌≡◌, ◌∙◌, List, sym, ap, subst}
use Rattle.win_vectors.specs.Fronts.{Vector, IsReduced}
use Rattle.front_table.specs.StoredVectors.{vectors_of}
use Rattle.front_table.proofs.Filling.{IsFilled-reduced}
use Rattle.front_table.proofs.stored_vectors.StoredVectors.fill.Goals as goal

pub append-requires-clause-reduced : goal.append-requires-clause-reduced
append-requires-clause-reduced c =
    let all : vectors_of c.args.self.now ≡ c.as_slice-vectors.result.now = ap vectors_of c.in-Narrow.is ∙ sym c.as_slice-vectors.ensures.value in
    rw c.widen.ensures.value
    (IsFilled-reduced c.as_slice-vectors.result.now c.clear.new.self c.loop-vector.vector-index c.vector-item.result c.loop-vector.out c.loop-vector-test.true c.vector-item.is c.loop-vector.invariant
    (subst (λ (vs : List Vector). IsReduced vs vs) all c.requires.reduced))
