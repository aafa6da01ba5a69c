use Rattle.job_words.specs.Asks.{texts_of}
use Rattle.am_top.proofs.Steps.{told_text, told_refused, told_refused_inputs, reading-not_done, made_text, made_refused, made_unread}
use Rattle.am_top.proofs.program.text_for.Goals as goal

pub returns-in-Ok-clause-text : goal.returns-in-Ok-clause-text
returns-in-Ok-clause-text g c =
    told_text (g.S.Shelf.told c.args.shelf.now) (texts_of c.args.words.now) c.in-Ok.inputs c.text_in.result _ _ c.in-Ok.ensures.read c.text_in.ensures.text

pub returns-in-Ok-clause-refused : goal.returns-in-Ok-clause-refused
returns-in-Ok-clause-refused g c =
    told_refused (g.S.Shelf.told c.args.shelf.now) (texts_of c.args.words.now) c.in-Ok.inputs c.text_in.result c.in-Ok.ensures.read c.text_in.ensures.refused

pub returns-in-Err-clause-refused : goal.returns-in-Err-clause-refused
returns-in-Err-clause-refused g c =
    told_refused_inputs (g.S.Shelf.told c.args.shelf.now) (texts_of c.args.words.now) c.in-Err.status c.in-Err.ensures.refused

pub returns-in-Err-clause-nothing_written : goal.returns-in-Err-clause-nothing_written
returns-in-Err-clause-nothing_written g c = reading-not_done c.in-Err.status c.in-Err.ensures.only

pub returns-in-Ok-clause-made_text : goal.returns-in-Ok-clause-made_text
returns-in-Ok-clause-made_text g c = λ number search' asked.
    made_text c.read_inputs.result number search' (c.read_inputs.ensures.made number search' asked) c.in-Ok.inputs c.text_in.result _ _ c.in-Ok.is c.text_in.ensures.text

pub returns-in-Ok-clause-made_refused : goal.returns-in-Ok-clause-made_refused
returns-in-Ok-clause-made_refused g c = λ number search' asked.
    made_refused c.read_inputs.result number search' (c.read_inputs.ensures.made number search' asked) c.in-Ok.inputs c.text_in.result c.in-Ok.is c.text_in.ensures.refused

pub returns-in-Err-clause-made_refused : goal.returns-in-Err-clause-made_refused
returns-in-Err-clause-made_refused g c = λ number search' asked.
    made_unread c.read_inputs.result number search' (c.read_inputs.ensures.made number search' asked) c.in-Err.status c.in-Err.is
