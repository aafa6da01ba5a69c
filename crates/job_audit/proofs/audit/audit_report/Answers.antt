use Rattle.std.proofs.Common.{◌≡◌, ◌∙◌, ℕ, List, Ok, ap, subst, arith}
use Rattle.log_check.specs.declared.check.LogVerdict.TheVariants.{Yes, No}
use Rattle.log_texts.specs.Reading.{log_read, IsLogFault}
use Rattle.am_report.specs.Audit.{audit_text}
use Rattle.am_report.specs.Reading.{report_of, report_read, IsReportFaultOf}
use Rattle.job_words.specs.declared.asks.LayoutsJob.TheVariants as jobs
use Rattle.am_answer.specs.Answers.{task_at}
use Rattle.am_answer.specs.Stages.{IsTaskRefusal}
use Rattle.am_answer.proofs.Passed.{refused_by}
use Rattle.job_check.proofs.ReadEntries.{report_sizes}
use Rattle.job_audit.proofs.Audited.{verdict_as, report_refused, log_refused, audit_refused, audit_text_is, audit_unproved}
use Rattle.job_audit.proofs.audit.audit_report.Goals as goal

pub returns-in_err-report-clause-refused : goal.returns-in_err-report-clause-refused
returns-in_err-report-clause-refused c =
    refused_by (IsTaskRefusal (task_at c.args.root.now (jobs.Audit c.args.report.now c.args.log.now))) c.from_residual.result _ c.from_residual.ensures.1
    (report_refused c.args.root.now c.args.report.now c.args.log.now c.in_err-report.field-0.0 (subst (λ (b : List ℕ). IsReportFaultOf c.in_err-report.field-0.0 (report_read b)) c.bytes.ensures c.in_err-report.ensures.fault))

pub returns-in_err-log-clause-refused : goal.returns-in_err-log-clause-refused
returns-in_err-log-clause-refused c =
    refused_by (IsTaskRefusal (task_at c.args.root.now (jobs.Audit c.args.report.now c.args.log.now))) c.from_residual-in_err-log.result _ c.from_residual-in_err-log.ensures.1
    (log_refused c.args.root.now c.args.report.now c.args.log.now (report_of c.in_ok-report.report) (subst (λ (b : List ℕ). report_read b ≡ Ok (report_of c.in_ok-report.report)) c.bytes.ensures c.in_ok-report.ensures.read)
    c.in_err-log.field-0.0 (subst (λ (b : List ℕ). IsLogFault c.in_err-log.field-0.0 (log_read b)) c.bytes-2.ensures c.in_err-log.ensures.fault))

pub audited_vectors-requires : goal.audited_vectors-requires
audited_vectors-requires c =
    let sizes = report_sizes c.args.report.now (report_of c.in_ok-report.report) (subst (λ (b : List ℕ). report_read b ≡ Ok (report_of c.in_ok-report.report)) c.bytes.ensures c.in_ok-report.ensures.read) in
    omega (arith, sizes.0, c.requires.short)

pub returns-in_err-vectors-clause-refused : goal.returns-in_err-vectors-clause-refused
returns-in_err-vectors-clause-refused c =
    refused_by (IsTaskRefusal (task_at c.args.root.now (jobs.Audit c.args.report.now c.args.log.now))) c.from_residual-in_err-vectors.result c.in_err-vectors.field-0.0 c.from_residual-in_err-vectors.ensures.1
    (audit_refused c.args.root.now c.args.report.now c.args.log.now
    (report_of c.in_ok-report.report) (subst (λ (b : List ℕ). report_read b ≡ Ok (report_of c.in_ok-report.report)) c.bytes.ensures c.in_ok-report.ensures.read)
    c.in_ok-log.log (subst (λ (b : List ℕ). log_read b ≡ Ok c.in_ok-log.log) c.bytes-2.ensures c.in_ok-log.ensures.read)
    c.in_err-vectors.field-0.0 c.in_err-vectors.ensures.refused)

pub returns-in-Yes-clause-text : goal.returns-in-Yes-clause-text
returns-in-Yes-clause-text c =
    audit_text_is c.args.root.now c.args.report.now c.args.log.now
    (report_of c.in_ok-report.report) (subst (λ (b : List ℕ). report_read b ≡ Ok (report_of c.in_ok-report.report)) c.bytes.ensures c.in_ok-report.ensures.read)
    c.in_ok-log.log (subst (λ (b : List ℕ). log_read b ≡ Ok c.in_ok-log.log) c.bytes-2.ensures c.in_ok-log.ensures.read)
    _ c.in_ok-vectors.ensures.vectors c.in_ok-audit_text-in-Yes.field-0
    (verdict_as _ c.args.root.now c.root.view_is c.in_ok-report.report.moves c.deref.result.now c.in_ok-vectors.vectors.items c.deref.ensures.value c.in_ok-log.log c.in_ok-check_log.field-0 Yes c.in-Yes.is c.in_ok-check_log.ensures)
    (c.in_ok-audit_text-in-Yes.ensures ∙ ap audit_text c.len.ensures.value)

pub returns-clause-refused : goal.returns-clause-refused
returns-clause-refused c =
    audit_unproved c.args.root.now c.args.report.now c.args.log.now
    (report_of c.in_ok-report.report) (subst (λ (b : List ℕ). report_read b ≡ Ok (report_of c.in_ok-report.report)) c.bytes.ensures c.in_ok-report.ensures.read)
    c.in_ok-log.log (subst (λ (b : List ℕ). log_read b ≡ Ok c.in_ok-log.log) c.bytes-2.ensures c.in_ok-log.ensures.read)
    _ c.in_ok-vectors.ensures.vectors c.in-No.number
    (verdict_as _ c.args.root.now c.root.view_is c.in_ok-report.report.moves c.deref.result.now c.in_ok-vectors.vectors.items c.deref.ensures.value c.in_ok-log.log c.in_ok-check_log.field-0 (No c.in-No.number) c.in-No.is c.in_ok-check_log.ensures)
