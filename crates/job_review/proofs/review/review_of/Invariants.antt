use Rattle.std.proofs.Common.{take}
use Rattle.std.specs.List.{AllZip}
use Rattle.shared_table.specs.Passes.{IsPassOf}
use Rattle.job_review.specs.Reviews.{IsToldOf}
use Rattle.job_review.proofs.review.review_of.Given as goal

abbrev pub invariant-loop-decision : goal.invariant-loop-decision
invariant-loop-decision l = record {
  so : AllZip (IsToldOf l.board l.asked.moves) (take l.decision-index l.decision-items) l.told.items;
  pass : IsPassOf l.table l.pass;
}
