use Rattle.std.proofs.Common.{◌∙◌, sym, ap}
use Rattle.am_report.specs.Reading.{report_of, report_read}
use Rattle.job_told.proofs.GoodPlans.{accepted_good}
use Rattle.job_told.proofs.telling.good_report.Goals as goal

pub returns-clause-good : goal.returns-clause-good
returns-clause-good c =
    let said = c.in_ok-check_report_by.ensures.text in
    accepted_good c.args.root.now c.args.bytes.now (report_of c.in_ok-read_report.field-0) said.task (ap report_read (sym c.bytes.ensures) ∙ c.in_ok-read_report.ensures.read) said.accepted
