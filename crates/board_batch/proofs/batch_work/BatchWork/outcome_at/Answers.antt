use Rattle.std.proofs.Common.{◌≡◌, ◌∙◌, Some, sym, subst}
use Rattle.board_batch.specs.declared.batch.Problem.{Problem}
use Rattle.board_batch.specs.Batches.{IsOutcome}
use Rattle.board_batch.specs.Problems.{IsProblem}
use Rattle.board_batch.proofs.Answered.{all_here}
use Rattle.board_batch.proofs.batch_work.BatchWork.outcome_at.Goals as goal

pub returns-in-Some-clause-outcome : goal.returns-in-Some-clause-outcome
returns-in-Some-clause-outcome g c =
    let found = c.in-Some.ensures.found in
    let some : Some found.problem ≡ Some c.args.problem.now = sym found.here ∙ c.requires.problem in
    let same : found.problem ≡ c.args.problem.now = cc in
    subst (λ (p : Problem). IsOutcome c.args.self.now.batch.now p c.in-Some.outcome) same found.outcome_is

pub returns-in-None-clause-outcome : goal.returns-in-None-clause-outcome
returns-in-None-clause-outcome g c =
    let b = c.args.self.now.batch.now in
    let problem = all_here IsProblem b.problems.now c.args.place c.args.problem.now c.requires.batch.problems c.requires.problem in
    ((c.requires.solves 0 c.args.problem _ problem c.requires.pass).1 _ _ c.solve.ensures).0

pub returns-in-None-clause-pass : goal.returns-in-None-clause-pass
returns-in-None-clause-pass g c =
    let b = c.args.self.now.batch.now in
    let problem = all_here IsProblem b.problems.now c.args.place c.args.problem.now c.requires.batch.problems c.requires.problem in
    ((c.requires.solves 0 c.args.problem _ problem c.requires.pass).1 _ _ c.solve.ensures).1

pub returns-in-None-clause-grown : goal.returns-in-None-clause-grown
returns-in-None-clause-grown g c =
    let b = c.args.self.now.batch.now in
    let problem = all_here IsProblem b.problems.now c.args.place c.args.problem.now c.requires.batch.problems c.requires.problem in
    ((c.requires.solves 0 c.args.problem _ problem c.requires.pass).1 _ _ c.solve.ensures).2
