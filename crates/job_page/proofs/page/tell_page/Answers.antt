use Rattle.std.proofs.Common.{length}
use Rattle.am_report.specs.Reading.{report_of}
use Rattle.job_told.proofs.GoodPlans.{plans_good}
use Rattle.job_page.proofs.GoodPage.{good_moves}
use Rattle.job_page.proofs.page.tell_page.Goals as goal

pub report_page-requires-clause-fit : goal.report_page-requires-clause-fit
report_page-requires-clause-fit c =
    let root = c.args.root.now in
    let report = report_of c.in_ok-report.report in
    let good = plans_good root c.args.bytes.now report (length report.entries) c.in_ok-report.ensures.read c.in_ok-report.ensures.good in
    good_moves root.kept.node report.moves report.entries good
