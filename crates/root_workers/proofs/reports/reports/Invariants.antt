use Rattle.std.proofs.Common.{length}
use Rattle.shared_table.specs.Passes.{IsPassOf}
use Rattle.root_workers.specs.Rounds.{HasSeenMore}
use Rattle.root_workers.proofs.Causes.{ReportsSoFar}
use Rattle.root_workers.proofs.reports.reports.Given as goal

abbrev pub invariant-cards : goal.invariant-cards
invariant-cards l = record {
  pass : IsPassOf l.question.table.now l.pass;
  grown : HasSeenMore l.fn.pass l.pass;
  so : ReportsSoFar l.question.node.now l.question.moves l.question.options.now l.question.table.now l.fn.pass l.pass l.cards l.reports.items;
}

abbrev pub decreases-cards : goal.decreases-cards
decreases-cards l = length l.cards
