use Rattle.std.proofs.Common.{Ok, Err, ap}
use Rattle.am_answer.specs.Tasks.{Prove}
use Rattle.am_answer.specs.Stages.{IsTaskRefusal}
use Rattle.am_answer.proofs.Passed.{refused_by}
use Rattle.job_prove.proofs.Proven.{prove_text, prove_refused}
use Rattle.job_prove.proofs.prove.prove_front.Goals as goal

pub returns-in_err-log_of-clause-refused : goal.returns-in_err-log_of-clause-refused
returns-in_err-log_of-clause-refused c =
    refused_by (IsTaskRefusal (Ok (Prove c.args.root.now c.args.moves c.args.nodes))) c.from_residual.result _ c.from_residual.ensures.1
    (prove_refused _ c.args.root.now c.root.view_is c.args.moves c.args.nodes c.in_err-log_of.field-0.0
    (λ card is. c.in_err-log_of.ensures.spent card (ap Err is)))

pub returns-clause-text : goal.returns-clause-text
returns-clause-text c =
    prove_text _ c.args.root.now c.root.view_is c.args.moves c.args.nodes c.in_ok-log_of.field-0 c.in_ok-log_of.ensures.text c.in_ok-log_of.ensures.fits
