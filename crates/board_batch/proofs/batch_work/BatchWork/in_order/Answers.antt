use Rattle.std.proofs.Common.{Err, ap, arith}
use Rattle.root_workers.proofs.Seen.{seen_none, seen_more}
use Rattle.root_workers.proofs.Stops.{passed_on}
use Rattle.board_batch.specs.declared.fault.BatchFault.TheVariants.{Spent}
use Rattle.board_batch.proofs.Answered.{none_answered, one_more_answered, here_next, none_fit, one_more_fits, first_spent}
use Rattle.board_batch.proofs.batch_work.BatchWork.in_order.Goals as goal

pub loop-problem-init : goal.loop-problem-init
loop-problem-init g c =
    let b = c.args.self.now.batch.now in record {
      right = c.requires.right;
      pass = c.requires.pass;
      grown = seen_none c.args.pass.now;
      answers = none_answered b.problems.now b.moves c.new-answers.result.items c.new-answers.ensures.items;
      fits = λ plain. none_fit b.problems.now b.moves b.options.nodes;
    }

pub answer_at-requires-clause-problem : goal.answer_at-requires-clause-problem
answer_at-requires-clause-problem g c = λ κs outlives.
    let b = c.args.self.now.batch.now in
    here_next b.problems.now b.moves c.loop-problem.problem-index c.len-place.result c.problem-item.result c.loop-problem.answers.items c.loop-problem.invariant.answers c.loop-problem-test.true c.problem-item.is (omega (arith, c.len-place.ensures))

pub loop-problem-preserved : goal.loop-problem-preserved
loop-problem-preserved g c =
    let b = c.args.self.now.batch.now in record {
      right = c.answer_at.ensures.right;
      pass = c.answer_at.ensures.pass;
      grown = seen_more c.args.pass.now c.loop-problem.pass c.answer_at.new.pass c.loop-problem.invariant.grown c.answer_at.ensures.grown;
      answers = one_more_answered b.problems.now b.moves c.loop-problem.problem-index c.problem-item.result c.loop-problem.answers.items c.push.new.self.items c.in_ok-answer.answer
          c.loop-problem.invariant.answers c.loop-problem-test.true c.problem-item.is c.in_ok-answer.ensures.answer.0 c.in_ok-push.ensures.items;
      fits = λ plain. one_more_fits b.problems.now b.moves b.options.nodes c.loop-problem.problem-index c.problem-item.result (c.loop-problem.invariant.fits plain) c.loop-problem-test.true c.problem-item.is (c.in_ok-answer.ensures.answer.1 plain);
    }

pub returns-in_err-answer-clause-spent : goal.returns-in_err-answer-clause-spent
returns-in_err-answer-clause-spent g c = λ number card e.
    let b = c.args.self.now.batch.now in
    let fault = passed_on c.from_residual.result c.in_err-answer.field-0.0 (Spent number card) c.from_residual.ensures.1 e in
    let at = c.in_err-answer.ensures.spent number card (ap Err fault) in record {
      place = c.len-place.result;
      problem = c.problem-item.result;
      here = here_next b.problems.now b.moves c.loop-problem.problem-index c.len-place.result c.problem-item.result c.loop-problem.answers.items c.loop-problem.invariant.answers c.loop-problem-test.true c.problem-item.is (omega (arith, c.len-place.ensures));
      numbered = at.0;
      spent = at.1.0;
    }

pub returns-in_err-answer-clause-first_spent : goal.returns-in_err-answer-clause-first_spent
returns-in_err-answer-clause-first_spent g c = λ plain number card e.
    let b = c.args.self.now.batch.now in
    let fault = passed_on c.from_residual.result c.in_err-answer.field-0.0 (Spent number card) c.from_residual.ensures.1 e in
    let at = c.in_err-answer.ensures.spent number card (ap Err fault) in
    first_spent b.problems.now b.moves b.options.nodes c.loop-problem.problem-index c.len-place.result number card c.problem-item.result c.loop-problem.answers.items c.loop-problem.invariant.answers c.loop-problem-test.true
    c.problem-item.is (omega (arith, c.len-place.ensures)) (c.loop-problem.invariant.fits plain) at.0 (at.1.1 plain)

pub returns-in_err-answer-clause-grown : goal.returns-in_err-answer-clause-grown
returns-in_err-answer-clause-grown g c = seen_more c.args.pass.now c.loop-problem.pass c.answer_at.new.pass c.loop-problem.invariant.grown c.answer_at.ensures.grown

pub returns-in_err-push-clause-grown : goal.returns-in_err-push-clause-grown
returns-in_err-push-clause-grown g c = seen_more c.args.pass.now c.loop-problem.pass c.answer_at.new.pass c.loop-problem.invariant.grown c.answer_at.ensures.grown
