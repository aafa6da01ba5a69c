use Rattle.std.proofs.Common.{◌∙◌, ◌++◌, ℕ, List, ap₂}
use Rattle.root_answers.proofs.WrittenEntries.{report-of}
use Rattle.root_answers.proofs.report.report_text.Goals as goal

pub returns : goal.returns
returns c =
    report-of _ c.args.root.now c.root.view_is c.args.answer.now c.args.moves c.in_ok-text.text c.bytes.result.now c.in_ok-end.end _ c.requires c.in_ok-text.ensures c.bytes.ensures c.in_ok-end.ensures
    (c.in_ok-push-2.ensures.appended ∙ ap₂ (λ (front back : List ℕ). front ++ back) c.in_ok-push.ensures.appended c.bytes-2.ensures)
