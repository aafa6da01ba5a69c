use Rattle.shared_table.specs.Passes.{IsPassOf}
use Rattle.work_tickets.specs.Passes.{IsTicketPass}
use Rattle.worker_pool.specs.Findings.{AreRight}
use Rattle.worker_pool.proofs.Seen.{HasSeenMore}
use Rattle.worker_pool.proofs.worker.draw_all.Given as goal

abbrev pub invariant-loop-turn : goal.invariant-loop-turn
invariant-loop-turn g l = record {
  right : AreRight (g.W.Work.right l.work) l.findings.items;
  notes : g.W.Work.noted l.work l.notes;
  pass : IsPassOf (g.W.Work.shared l.work) l.pass;
  grown : HasSeenMore l.fn.pass l.pass;
  drawn : IsTicketPass l.tickets l.drawn;
}
