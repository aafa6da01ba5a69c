use Rattle.std.proofs.Common.{length}
use Rattle.worker_pool.proofs.share.+fn-share-join+arg2+fn-share-join+arg3+share.Given as goal

abbrev pub decreases-join+arg2 : goal.decreases-join+arg2
decreases-join+arg2 g l = length l.left.now

abbrev pub decreases-join+arg3 : goal.decreases-join+arg3
decreases-join+arg3 g l = length l.right.now

abbrev pub decreases-share : goal.decreases-share
decreases-share g l = length l.workers.now
