use Rattle.std.proofs.Common.{◌≡◌, ◌∙◌, ap₂, sym, arith}
use Rattle.std.specs.Borrow.{Bor}
use Rattle.std.proofs.lemmas.List.Sums.{fold_more}
use Rattle.clap.specs.Words.{App, Text, with_rule}
use Rattle.job_words.specs.Command.{flag_option, list_command, option_command}
use Rattle.job_words.proofs.options.option_command.Goals as goal

pub returns : goal.returns
unfolding option_command
returns c =
    let all : c.loop-name.name-index ≡ 3 = omega arith in
    rw all at c.loop-name.invariant

pub loop-name-preserved : goal.loop-name-preserved
loop-name-preserved c =
    c.in_ok-command-2.ensures.shape c.flag_option.ensures.local
    ∙ (ap₂ with_rule c.loop-name.invariant c.flag_option.ensures.rule
    ∙ sym (fold_more (λ (a : App) (name : Bor Text). with_rule a (flag_option name.now)) list_command _ c.loop-name.name-index _ (omega arith)))
