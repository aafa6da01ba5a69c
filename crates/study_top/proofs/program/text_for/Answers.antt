use Rattle.std.proofs.Common.{◌∙◌, ap, Ok}
use Rattle.job_words.specs.Asks.{texts_of}
use Rattle.job_words.specs.StudyAsks.{study_ask_of}
use Rattle.study_top.proofs.Asked.{text_asked, refusal_asked, draw_refused, drawn_refused}
use Rattle.study_top.proofs.program.text_for.Goals as goal

pub returns-in-OfFiles-clause-text : goal.returns-in-OfFiles-clause-text
returns-in-OfFiles-clause-text g c =
    text_asked (texts_of c.args.words.now) _ (c.in_ok-asked.ensures.ask ∙ ap (λ a. Ok (study_ask_of a)) c.in-OfFiles.is) _ _ c.text_of_files.ensures.text

pub returns-in-OfFiles-clause-refused : goal.returns-in-OfFiles-clause-refused
returns-in-OfFiles-clause-refused g c =
    refusal_asked (texts_of c.args.words.now) _ (c.in_ok-asked.ensures.ask ∙ ap (λ a. Ok (study_ask_of a)) c.in-OfFiles.is) _ _ c.text_of_files.ensures.refused

pub returns-in_err-text-in-Draw-clause-refused : goal.returns-in_err-text-in-Draw-clause-refused
returns-in_err-text-in-Draw-clause-refused g c =
    draw_refused _ c.from_residual-in_err-text-in-Draw.result (texts_of c.args.words.now) _ _ _ c.in_err-text-in-Draw.field-0.0
    (c.in_ok-asked.ensures.ask ∙ ap (λ a. Ok (study_ask_of a)) c.in-Draw.is)
    c.in_ok-deal-in-Draw.ensures.read c.in_err-text-in-Draw.ensures.refused c.from_residual-in_err-text-in-Draw.ensures.1

pub returns-in_ok-deal-in-OfDrawn-clause-refused : goal.returns-in_ok-deal-in-OfDrawn-clause-refused
returns-in_ok-deal-in-OfDrawn-clause-refused g c =
    drawn_refused _ c.text_of_drawn.result (texts_of c.args.words.now) _ _ c.in-OfDrawn.study c.in-OfDrawn.moves c.in-OfDrawn.search _ _
    (c.in_ok-asked.ensures.ask ∙ ap (λ a. Ok (study_ask_of a)) c.in-OfDrawn.is)
    c.drawn_job-job.ensures.job c.in_ok-deal-in-OfDrawn.ensures.read c.text_of_drawn.ensures.refused
