use Rattle.std.proofs.Common.{Err, ap}
use Rattle.am_answer.specs.Tasks.{Match}
use Rattle.job_search.proofs.Spent.{refused_first, refused_later}
use Rattle.job_search.proofs.root_jobs.first_strategy.Goals as goal

pub returns-in_err-found-clause-refused : goal.returns-in_err-found-clause-refused
returns-in_err-found-clause-refused g c = λ playing.
    refused_first _ c.args.root.now c.root.view_is c.options_of-options.result c.args.search.now c.options_of-options.ensures c.args.moves (Match c.args.root.now c.args.moves c.args.search.now playing)
    c.from_residual-in_err-found.result c.in_err-found.field-0.0 (λ card is. is) c.from_residual-in_err-found.ensures.1 (λ card is. c.in_err-found.ensures.spent card (ap Err is)) (λ card is plain. c.in_err-found.ensures.first_spent plain card (ap Err is))

pub returns-in_err-first_entry-clause-refused : goal.returns-in_err-first_entry-clause-refused
returns-in_err-first_entry-clause-refused g c = λ playing.
    refused_later _ c.args.root.now c.root.view_is c.options_of-options.result c.args.search.now c.options_of-options.ensures c.args.moves (Match c.args.root.now c.args.moves c.args.search.now playing)
    c.from_residual-in_err-first_entry.result c.in_err-first_entry.field-0.0 (λ card is. is) c.from_residual-in_err-first_entry.ensures.1 (λ card is. c.in_err-first_entry.ensures.spent card (ap Err is)) c.in_ok-found.ensures.fits
