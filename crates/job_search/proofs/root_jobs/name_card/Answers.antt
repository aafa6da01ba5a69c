use Rattle.std.proofs.Common.{Err, ap}
use Rattle.am_answer.specs.Tasks.{Card}
use Rattle.job_search.proofs.Answered.{card-text}
use Rattle.job_search.proofs.Spent.{workers_as, refused_first, fits_as}
use Rattle.job_search.proofs.root_jobs.name_card.Goals as goal

pub card-requires-clause-workers : goal.card-requires-clause-workers
card-requires-clause-workers g c = λ κs outlives. workers_as c.options_of-options.result c.args.search.now c.options_of-options.ensures c.requires.limits

pub returns-in_err-found-clause-refused : goal.returns-in_err-found-clause-refused
returns-in_err-found-clause-refused g c =
    refused_first _ c.args.root.now c.root.view_is c.options_of-options.result c.args.search.now c.options_of-options.ensures c.args.moves (Card c.args.root.now c.args.moves c.args.search.now)
    c.from_residual-in_err-found.result c.in_err-found.field-0.0 (λ card is. is) c.from_residual-in_err-found.ensures.1 (λ card is. c.in_err-found.ensures.spent card (ap Err is)) (λ card is plain. c.in_err-found.ensures.first_spent plain card (ap Err is))

pub returns-clause-text : goal.returns-clause-text
returns-clause-text g c =
    let found = c.in_ok-found.found in
    card-text _ c.args.root.now c.args.moves c.args.search.now found.card found.weight c.in_ok-card_text.field-0 c.root.view_is (fits_as _ c.args.root.now c.root.view_is c.options_of-options.result c.args.search.now c.options_of-options.ensures c.args.moves c.in_ok-found.ensures.fits) c.in_ok-found.ensures.card c.in_ok-found.ensures.weight
    c.in_ok-card_text.ensures
