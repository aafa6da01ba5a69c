use Rattle.worker_pool.proofs.Seen.{seen_more, seen_parted, seen_joined}
use Rattle.worker_pool.proofs.pool.work_side_by_side.Goals as goal

pub returns-clause-grown : goal.returns-clause-grown
returns-clause-grown g c =
    seen_more c.args.pass.now c.split-first.new.pass c.join.new.pass
    (seen_parted c.args.pass.now c.split-first.new.pass c.split-first.result c.split-first.ensures.parted)
    (seen_joined c.split-first.new.pass c.share-done.result.pass c.join.new.pass c.join.ensures.joined)
