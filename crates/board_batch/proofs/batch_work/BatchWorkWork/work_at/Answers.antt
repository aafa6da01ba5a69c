use Rattle.board_batch.proofs.Answered.{solved_at}
use Rattle.board_batch.proofs.batch_work.BatchWorkWork.work_at.Goals as goal

pub returns-then-matches-clause-pass : goal.returns-then-matches-clause-pass
returns-then-matches-clause-pass g c = (solved_at c.args.self.now.batch.now c.args.worker.now c.args.place c.in-Some.problem _ _ _ c.requires.sound c.requires.pass c.in-Some.ensures.lookup.3.0 c.in-Some.ensures.lookup.1 c.solve-outcome.ensures).1

pub returns-then-matches-clause-grown : goal.returns-then-matches-clause-grown
returns-then-matches-clause-grown g c = (solved_at c.args.self.now.batch.now c.args.worker.now c.args.place c.in-Some.problem _ _ _ c.requires.sound c.requires.pass c.in-Some.ensures.lookup.3.0 c.in-Some.ensures.lookup.1 c.solve-outcome.ensures).2

pub returns-clause-found : goal.returns-clause-found
returns-clause-found g c = (solved_at c.args.self.now.batch.now c.args.worker.now c.args.place c.in-Some.problem _ _ _ c.requires.sound c.requires.pass c.in-Some.ensures.lookup.3.0 c.in-Some.ensures.lookup.1 c.solve-outcome.ensures).0

pub returns-clause-pass : goal.returns-clause-pass
returns-clause-pass g c = (solved_at c.args.self.now.batch.now c.args.worker.now c.args.place c.in-Some.problem _ _ _ c.requires.sound c.requires.pass c.in-Some.ensures.lookup.3.0 c.in-Some.ensures.lookup.1 c.solve-outcome.ensures).1

pub returns-clause-grown : goal.returns-clause-grown
returns-clause-grown g c = (solved_at c.args.self.now.batch.now c.args.worker.now c.args.place c.in-Some.problem _ _ _ c.requires.sound c.requires.pass c.in-Some.ensures.lookup.3.0 c.in-Some.ensures.lookup.1 c.solve-outcome.ensures).2
