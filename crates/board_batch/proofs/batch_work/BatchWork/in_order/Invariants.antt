use Rattle.std.proofs.Common.{take}
use Rattle.shared_table.specs.Passes.{IsPassOf}
use Rattle.root_workers.specs.Plain.{IsPlain}
use Rattle.root_workers.specs.Rounds.{HasSeenMore}
use Rattle.board_batch.specs.Problems.{AreAnswers, AllProblemsFit}
use Rattle.board_batch.specs.Batches.{IsOutcomeAt}
use Rattle.worker_pool.specs.Findings.{AreRight}
use Rattle.board_batch.proofs.batch_work.BatchWork.in_order.Given as goal

abbrev pub invariant-loop-problem : goal.invariant-loop-problem
invariant-loop-problem g l = record {
  right : AreRight (IsOutcomeAt l.self.batch.now) l.findings.items;
  pass : IsPassOf l.self.batch.now.table.now l.pass;
  grown : HasSeenMore l.fn.pass l.pass;
  answers : AreAnswers (take l.problem-index l.self.batch.now.problems.now) l.self.batch.now.moves l.answers.items;
  fits : IsPlain l.self.batch.now.options → AllProblemsFit (take l.problem-index l.self.batch.now.problems.now) l.self.batch.now.moves l.self.batch.now.options.nodes;
}
