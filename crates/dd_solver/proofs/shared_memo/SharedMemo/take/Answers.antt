use Rattle.std.proofs.Common.{rules}
use Rattle.dd_solver.proofs.Shards.{takes_shard}
use Rattle.dd_solver.proofs.shared_memo.SharedMemo.take.Goals as goal

pub swap_new_seat-found-requires : goal.swap_new_seat-found-requires
swap_new_seat-found-requires c = (search rules, takes_shard tt _ _ (search rules))

pub returns-then-found-eq0-clause-holds : goal.returns-then-found-eq0-clause-holds
returns-then-found-eq0-clause-holds c = c.swap_new_seat-found.ensures.1 c.if-found-eq0.true
