use Rattle.std.proofs.Common.{Err, ap, ap₂, replicate, subst, ◌∙◌}
use Rattle.am_report.specs.Made.{made_text}
use Rattle.am_answer.specs.Tasks.{Made}
use Rattle.am_answer.specs.Endings.{IsSpentBy}
use Rattle.job_search.proofs.Answered.{made-text}
use Rattle.job_search.proofs.Spent.{workers_as, refused_first, fits_as}
use Rattle.job_search.proofs.made.summarize.Goals as goal

pub counted_front-requires-clause-workers : goal.counted_front-requires-clause-workers
counted_front-requires-clause-workers g c = λ κs outlives. workers_as c.options_of-options.result c.args.search.now c.options_of-options.ensures c.requires.limits

pub counted_front-requires-clause-alike : goal.counted_front-requires-clause-alike
counted_front-requires-clause-alike g c = λ κs outlives. c.equal-weights.ensures ∙ ap (λ width. replicate width 1) c.width-width.ensures.value

pub returns-in_err-found-clause-refused : goal.returns-in_err-found-clause-refused
returns-in_err-found-clause-refused g c =
    refused_first _ c.args.job.now.root.now c.root.view_is c.options_of-options.result c.args.search.now c.options_of-options.ensures c.args.job.now.moves (Made c.args.job.now.number c.args.job.now.root.now c.args.search.now)
    c.from_residual-in_err-found.result c.in_err-found.field-0.0 (λ card. subst (λ moves. IsSpentBy c.args.job.now.root.now.kept.node moves c.args.search.now card) c.requires.moves) c.from_residual-in_err-found.ensures.1
    (λ card is. c.in_err-found.ensures.spent card (ap Err is)) (λ card is plain. c.in_err-found.ensures.first_spent plain card (ap Err is))

pub returns-clause-text : goal.returns-clause-text
returns-clause-text g c =
    let found = c.in_ok-found.found in
    made-text c.args.job.now.number _ c.args.job.now.root.now c.args.job.now.moves c.args.search.now found.front.vectors found.card found.count c.in_ok-made_text.field-0 c.root.view_is c.requires.moves (fits_as _ c.args.job.now.root.now c.root.view_is c.options_of-options.result c.args.search.now c.options_of-options.ensures c.args.job.now.moves c.in_ok-found.ensures.fits) c.in_ok-found.ensures.front.front c.in_ok-found.ensures.card c.in_ok-found.ensures.count
    (c.in_ok-made_text.ensures ∙ ap₂ (λ layouts front. made_text (record { number = c.args.job.now.number; layouts = layouts; front = front; best = found.count; card = found.card })) c.width-width.ensures.value c.len.ensures.value)
