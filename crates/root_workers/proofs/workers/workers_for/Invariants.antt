use Rattle.std.proofs.Common.{◌≤◌, length}
use Rattle.root_workers.proofs.workers.workers_for.Given as goal

abbrev pub invariant-loop-number : goal.invariant-loop-number
invariant-loop-number l = 1 ≤ length l.workers.items
