use Rattle.dd_solver.proofs.NeedsAll.{covered_more}
use Rattle.dd_solver.proofs.needs_all.with_higher.Goals as goal

pub loop-card-preserved : goal.loop-card-preserved
loop-card-preserved c = record {
  closed = c.with_up-counting.ensures.closed;
  covered = covered_more c.args.cards c.loop-card.counting c.loop-card.rest c.pop_first.new.self c.with_up-counting.result c.in-Some.card c.in-Some.ensures.value c.in-Some.ensures.a_set
      c.with_up-counting.ensures.within c.with_up-counting.ensures.value c.loop-card.invariant.covered;
}
