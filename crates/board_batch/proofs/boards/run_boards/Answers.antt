use Rattle.root_workers.proofs.Seen.{seen_more}
use Rattle.board_batch.proofs.boards.run_boards.Goals as goal

pub returns-clause-grown : goal.returns-clause-grown
returns-clause-grown g c = seen_more c.args.pass.now c.work_side_by_side.new.pass c.in_order.new.pass c.work_side_by_side.ensures.grown c.in_order.ensures.grown
