use Rattle.std.proofs.Common.{◌∙◌, sym}
use Rattle.job_match.proofs.Matched.{not_kept, is_kept, refused_on}
use Rattle.job_match.proofs.play.play_match.Goals as goal

pub returns-in_default-clause-refused : goal.returns-in_default-clause-refused
returns-in_default-clause-refused g c =
    not_kept c.args.job.now.root.now c.args.job.now.moves c.args.job.now.search.now c.args.job.now.layout c.args.job.now.switch (sym c.place_of.ensures ∙ c.in_default.is)

pub returns-in_err-first-clause-refused : goal.returns-in_err-first-clause-refused
returns-in_err-first-clause-refused g c =
    refused_on c.from_residual.result c.in_err-first.field-0.0 _ _ c.from_residual.ensures.1
    (is_kept c.args.job.now.root.now c.args.job.now.moves c.args.job.now.search.now c.args.job.now.layout c.args.job.now.switch c.in-Some.place (sym c.place_of.ensures ∙ c.in-Some.is))
    (c.in_err-first.ensures.refused (record { layout = c.args.job.now.layout; place = c.in-Some.place; switch = c.args.job.now.switch }))

pub returns-clause-text : goal.returns-clause-text
returns-clause-text g c = record {
  task = _;
  accepted = is_kept c.args.job.now.root.now c.args.job.now.moves c.args.job.now.search.now c.args.job.now.layout c.args.job.now.switch c.in-Some.place (sym c.place_of.ensures ∙ c.in-Some.is);
  is_text = c.in_ok-text.ensures.text;
  fits = c.in_ok-first.ensures.fits;
}
