use Rattle.std.proofs.Common.{rules}
use Rattle.dd_solver.proofs.Shards.{gives_shard}
use Rattle.dd_solver.proofs.shared_memo.SharedMemo.give.Goals as goal

pub store-requires : goal.store-requires
store-requires c = (search rules, search rules, gives_shard _ _ _ _ (search rules) c.requires.holds)
