use Rattle.std.proofs.Common.{◌≡◌, length}
use Rattle.dd_solver.proofs.shared_memo.empty_shards.Given as goal

abbrev pub invariant-loop : goal.invariant-loop
invariant-loop l = length l.shards.items ≡ l.counter
