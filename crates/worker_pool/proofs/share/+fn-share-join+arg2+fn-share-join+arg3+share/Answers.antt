use Rattle.std.proofs.Common.{rules}
use Rattle.worker_pool.proofs.Seen.{HasSeenMore, seen_more, seen_parted}
use Rattle.worker_pool.proofs.share.+fn-share-join+arg2+fn-share-join+arg3+share.Goals as goal

pub returns-clause-grown : goal.returns-clause-grown
returns-clause-grown g t c =
    let mine : HasSeenMore c.split-other.new.pass c.join-mine.result.0.pass = search rules in
    seen_more c.args.pass c.split-other.new.pass c.both.result.pass
    (seen_parted c.args.pass c.split-other.new.pass c.split-other.result c.split-other.ensures.parted)
    (seen_more c.split-other.new.pass c.join-mine.result.0.pass c.both.result.pass mine c.both.ensures.grown)
