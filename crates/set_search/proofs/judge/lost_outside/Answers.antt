use Rattle.std.proofs.Common.{arith}
use Rattle.set_nodes.proofs.Places.{one_within}
use Rattle.set_search.proofs.judge.lost_outside.Goals as goal

pub returns-clause-none : goal.returns-clause-none
returns-clause-none c = λ none k h out. let low = one_within c.args.set k h in c.loop-place.invariant k (omega (arith, low, c.width-place-end.ensures.value, c.loop-place-test.false)) h out
