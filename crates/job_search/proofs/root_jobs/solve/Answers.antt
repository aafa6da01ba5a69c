use Rattle.std.proofs.Common.{Err, ap, refl, subst}
use Rattle.am_answer.specs.declared.root.Root.{Root}
use Rattle.am_answer.specs.Tasks.{Solve}
use Rattle.root_answers.specs.Written.{IsWrittenAnswer}
use Rattle.job_search.proofs.Spent.{workers_as, refused_first, fits_as}
use Rattle.job_search.proofs.root_jobs.solve.Goals as goal

pub written_root-requires-clause-workers : goal.written_root-requires-clause-workers
written_root-requires-clause-workers g c = λ κs outlives. workers_as c.options_of-options.result c.args.search.now c.options_of-options.ensures c.requires.limits

pub report_text-requires : goal.report_text-requires
report_text-requires g c = subst (λ (root : Root). IsWrittenAnswer root.kept.node root.kept.weights c.args.moves c.in_ok-answer.answer) c.root.view_is c.in_ok-answer.ensures.written

pub returns-in_err-answer-clause-refused : goal.returns-in_err-answer-clause-refused
returns-in_err-answer-clause-refused g c =
    refused_first _ c.args.root.now c.root.view_is c.options_of-options.result c.args.search.now c.options_of-options.ensures c.args.moves (Solve c.args.root.now c.args.moves c.args.search.now)
    c.from_residual-in_err-answer.result c.in_err-answer.field-0.0 (λ card is. is) c.from_residual-in_err-answer.ensures.1 (λ card is. c.in_err-answer.ensures.spent card (ap Err is)) (λ card is plain. c.in_err-answer.ensures.first_spent plain card (ap Err is))

pub returns-clause-text : goal.returns-clause-text
returns-clause-text g c = record {
  task = Solve c.args.root.now c.args.moves c.args.search.now;
  accepted = refl;
  is_text = c.in_ok-report_text.ensures;
  fits = fits_as _ c.args.root.now c.root.view_is c.options_of-options.result c.args.search.now c.options_of-options.ensures c.args.moves c.in_ok-answer.ensures.fits;
}
