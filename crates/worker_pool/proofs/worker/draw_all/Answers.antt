use Rattle.worker_pool.proofs.Seen.{seen_more}
use Rattle.worker_pool.proofs.worker.draw_all.Goals as goal

pub returns-then-is_err-clause-grown : goal.returns-then-is_err-clause-grown
returns-then-is_err-clause-grown g c = seen_more c.args.pass.now c.loop-turn.pass c.do_job-done.new.pass c.loop-turn.invariant.grown c.do_job-done.ensures.grown

pub loop-turn-preserved : goal.loop-turn-preserved
loop-turn-preserved g c = record {
  right = c.do_job-done.ensures.right;
  notes = c.do_job-done.ensures.notes;
  pass = c.do_job-done.ensures.pass;
  grown = seen_more c.args.pass.now c.loop-turn.pass c.do_job-done.new.pass c.loop-turn.invariant.grown c.do_job-done.ensures.grown;
  drawn = c.draw.ensures.pass;
}
