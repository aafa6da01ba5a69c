use Rattle.std.proofs.Common.{◌∙◌, ℕ, Ok, sym, ap, subst}
use Rattle.strategy_tree.specs.PlanMeaning.{plan_of}
use Rattle.byte_text.specs.Lines.{line_number}
use Rattle.am_report.specs.declared.fault.ReportFault.{ReportFault}
use Rattle.am_report.specs.declared.fault.ReportKind.{ReportKind}
use Rattle.am_report.specs.declared.fault.ReportKind.TheVariants as kinds
use Rattle.am_report.specs.Reading.{expected, entry_read, IsReportFaultOf}
use Rattle.am_report.proofs.ReportSteps.{at_fault, entry_read-no_vector, entry_read-plan, entry_read-report_fault}
use Rattle.am_report.proofs.reading.read_entry.Goals as goal

pub returns-in_default-clause-read : goal.returns-in_default-clause-read
returns-in_default-clause-read c =
    let bytes = c.args.bytes.now in
    let at = c.args.at in
    let found : ℕ × ReportKind = (line_number bytes at, kinds.Vector) in
    at_fault (entry_read c.args.version bytes at) c.fault_at.result found.0 kinds.Vector c.fault_at.ensures
    (entry_read-no_vector c.args.version bytes at found (ap (expected kinds.Vector bytes at) (sym c.in_default.ensures.value)))

pub returns-in-Ok-clause-read : goal.returns-in-Ok-clause-read
returns-in-Ok-clause-read c =
    let said = ap (expected kinds.Vector c.args.bytes.now c.args.at) (sym c.in-Some.ensures.value) in
    entry_read-plan c.args.version c.args.bytes.now c.args.at c.in-Some.said.0 c.in-Some.said.1 c.in-Some.next (plan_of c.in-Ok.plan) c.in-Ok.end said c.in-Ok.ensures.read
    ∙ ap (λ entry. Ok (entry, c.in-Ok.end)) (sym c.entry_of.ensures)

pub returns-in-Err-clause-read : goal.returns-in-Err-clause-read
returns-in-Err-clause-read c =
    subst (λ (fault : ReportFault). IsReportFaultOf fault (entry_read c.args.version c.args.bytes.now c.args.at)) (sym c.report_fault.ensures)
    (entry_read-report_fault c.args.version c.args.bytes.now c.args.at c.in-Some.said.0 c.in-Some.said.1 c.in-Some.next c.in-Err.fault (ap (expected kinds.Vector c.args.bytes.now c.args.at) (sym c.in-Some.ensures.value)) c.in-Err.ensures.fault)
