use Rattle.am_answer.specs.Answers.{task_at}
use Rattle.am_answer.proofs.Tables.{texts_for_at}
use Rattle.am_top.proofs.jobs.text_at.Goals as goal

pub returns-in-Solve-clause-text : goal.returns-in-Solve-clause-text
unfolding task_at
returns-in-Solve-clause-text g c = rw (c.in-Solve.is) (texts_for_at c.solve.result _ _ _ c.solve.ensures.text)

pub returns-in-Solve-clause-refused : goal.returns-in-Solve-clause-refused
unfolding task_at
returns-in-Solve-clause-refused g c = rw (c.in-Solve.is) c.solve.ensures.refused

pub returns-in-Prove-clause-refused : goal.returns-in-Prove-clause-refused
unfolding task_at
returns-in-Prove-clause-refused g c = rw (c.in-Prove.is) c.prove_front.ensures.refused
