use Rattle.std.proofs.Common.{◌≡◌, take}
use Rattle.std.specs.Prelude.{fold}
use Rattle.std.specs.Borrow.{Bor}
use Rattle.clap.specs.Words.{App, Text, app_of, with_rule}
use Rattle.job_words.specs.Command.{flag_option, list_command}
use Rattle.job_words.proofs.options.option_command.Given as goal

abbrev pub invariant-loop-name : goal.invariant-loop-name
invariant-loop-name l =
    app_of l.command ≡ fold (λ (c : App) (name : Bor Text). with_rule c (flag_option name.now)) list_command (take l.name-index l.name-items)
