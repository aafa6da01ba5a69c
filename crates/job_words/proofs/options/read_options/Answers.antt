use Rattle.std.proofs.Common.{◌∙◌, ap, Some}
use Rattle.clap.specs.Words.{app_of}
use Rattle.job_words.proofs.CommandLemmas.{refused, taken}
use Rattle.job_words.proofs.options.read_options.Goals as goal

pub returns-in-Ok : goal.returns-in-Ok
returns-in-Ok c =
    ap Some c.in_ok-options-in-Ok.ensures ∙ taken (app_of c.in_ok-command.command) _ c.in-Ok.matches c.in_ok-command.ensures c.in-Ok.ensures.kinds c.in-Ok.ensures.matches

pub returns : goal.returns
returns c =
    refused (app_of c.in_ok-command.command) _ c.in-Err.error c.in_ok-command.ensures c.in-Err.ensures.kinds (λ e. c.in_default.not-OutOfMemory (c.kind.ensures ∙ e))
