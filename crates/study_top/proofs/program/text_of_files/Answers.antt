use Rattle.job_words.specs.Asks.{ask_of}
use Rattle.study_top.proofs.Asked.{files_refused}
use Rattle.study_top.proofs.program.text_of_files.Goals as goal

pub returns-in_err-text-clause-refused : goal.returns-in_err-text-clause-refused
returns-in_err-text-clause-refused g c =
    files_refused _ c.from_residual-in_err-text.result c.args.study (ask_of c.args.reads) c.in_ok-inputs.inputs c.in_err-text.field-0.0
    c.in_ok-inputs.ensures.read c.in_err-text.ensures.refused c.from_residual-in_err-text.ensures.1
