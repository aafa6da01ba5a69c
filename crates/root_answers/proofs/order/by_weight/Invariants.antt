use Rattle.std.proofs.Common.{◌≡◌, take}
use Rattle.root_answers.proofs.order.by_weight.Given as goal

abbrev pub invariant-loop-vector : goal.invariant-loop-vector
invariant-loop-vector l = l.vectors.items ≡ take l.vector-index l.ordered
