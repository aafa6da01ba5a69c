use Rattle.std.proofs.Common.{Err, ap, refl, ◌∙◌}
use Rattle.job_words.specs.Asks.{texts_of}
use Rattle.am_outside.specs.Faults.{Rose}
use Rattle.am_top.proofs.Completes.{told_complete, made_run_refused, made_run_written, made_complete}
use Rattle.am_top.proofs.InFront.{in_front-same, in_front-written}
use Rattle.am_top.proofs.program.run.Goals as goal

pub returns-in-Err-clause-complete : goal.returns-in-Err-clause-complete
returns-in-Err-clause-complete g c =
    rw (c.refuse.ensures.same)
    (told_complete (g.S.Shelf.told c.args.shelf.now) (texts_of c.args.words.now) c.in-Err.status (g.S.Shelf.faults c.args.shelf.now) (g.S.Shelf.faults c.text_for.new.shelf)
    (Rose (g.O.Sink.faults c.args.out.now) (g.O.Sink.faults c.args.out.now)) c.in-Err.ensures.refused (λ file is. c.text_for.ensures.unread file (c.in-Err.is ∙ ap Err is)))

pub returns-in-Err-clause-made_status : goal.returns-in-Err-clause-made_status
returns-in-Err-clause-made_status g c = λ number search' asked.
    rw (c.refuse.ensures.same) (made_run_refused number search' c.in-Err.status (c.in-Err.ensures.made_refused number search' asked))

pub returns-in-Err-clause-made_complete : goal.returns-in-Err-clause-made_complete
returns-in-Err-clause-made_complete g c = λ number search' task asked is fits whole.
    rw (c.refuse.ensures.same) (made_complete number search' task c.in-Err.status is fits (c.in-Err.ensures.made_refused number search' asked))

pub returns-in-Err-clause-in_front : goal.returns-in-Err-clause-in_front
returns-in-Err-clause-in_front g c = in_front-same (g.O.Sink.told c.args.out.now) (g.O.Sink.told c.args.out.now) refl

pub returns-in-Ok-clause-made_status : goal.returns-in-Ok-clause-made_status
returns-in-Ok-clause-made_status g c = λ number search' asked.
    made_run_written number search' c.in-Ok.text c.deliver.result _ _ (c.in-Ok.ensures.made_text number search' asked) c.deliver.ensures.ends

pub returns-in-Ok-clause-in_front : goal.returns-in-Ok-clause-in_front
returns-in-Ok-clause-in_front g c =
    in_front-written (g.O.Sink.told c.args.out.now) (g.O.Sink.told c.deliver.new.out) c.in-Ok.text c.deliver.result c.deliver.ensures.ends c.deliver.ensures.whole c.deliver.ensures.part

pub returns-in-Ok-clause-made_report : goal.returns-in-Ok-clause-made_report
returns-in-Ok-clause-made_report g c = λ number search' asked done.
    let written = c.in-Ok.ensures.made_text number search' asked in
    (written.task, c.in-Ok.text, written.accepted, written.is_text, c.deliver.ensures.whole done)
