use Rattle.std.proofs.Common.{◌∙◌, Result, sym, subst}
use Rattle.std.specs.Prelude.{IfOk}
use Rattle.am_report.specs.declared.boards.GameText.TheVariants.{Solved}
use Rattle.am_answer.specs.declared.root.Root.{Root}
use Rattle.am_answer.specs.declared.status.Status.{Status}
use Rattle.am_answer.specs.Reports.{IsGameText}
use Rattle.root_answers.specs.declared.written.WrittenAnswer.{WrittenAnswer}
use Rattle.root_answers.specs.Written.{IsWrittenAnswer}
use Rattle.job_boards.specs.Outcomes.{HasAnswer}
use Rattle.job_boards.proofs.Told.{at-place}
use Rattle.job_boards.proofs.outcomes.outcome.Goals as goal

pub report_text-requires : goal.report_text-requires
report_text-requires c =
    let root = c.in-Ok.root in
    let has = subst (λ (g : Result Root Status). IfOk g (HasAnswer c.args.moves c.args.answers.now c.args.place)) c.in-Ok.is c.requires.answer in
    let same = c.index-answers-place.is ∙ at-place c.args.answers.now c.args.place has.answer c.index-answers-place.result has.there in
    subst (λ (a : WrittenAnswer). IsWrittenAnswer root.kept.node root.kept.weights c.args.moves a) (sym same) has.own

pub returns-in_ok-text-in-Ok : goal.returns-in_ok-text-in-Ok
returns-in_ok-text-in-Ok c =
    subst (λ (g : Result Root Status). IsGameText c.args.moves g (Solved c.in_ok-text-in-Ok.text)) (sym c.in-Ok.is) c.in_ok-text-in-Ok.ensures
