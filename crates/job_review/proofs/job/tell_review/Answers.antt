use Rattle.std.proofs.Common.{◌∙◌, ap}
use Rattle.review_forms.specs.Forms.{review_in}
use Rattle.job_review.proofs.job.tell_review.Goals as goal

pub returns-clause-text : goal.returns-clause-text
returns-clause-text c =
    (c.in_ok-told.told.items, c.in_ok-told.ensures.told, c.in_ok-review_in.ensures ∙ ap (review_in c.args.form c.args.asked.now.moves) c.deref.ensures.value)
