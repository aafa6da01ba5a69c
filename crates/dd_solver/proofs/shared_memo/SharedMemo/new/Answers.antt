use Rattle.std.proofs.Common.{rules}
use Rattle.dd_solver.proofs.Shards.{begins}
use Rattle.dd_solver.proofs.shared_memo.SharedMemo.new.Goals as goal

pub new-requires : goal.new-requires
new-requires c = begins _ _ _ (search rules)
