use Rattle.std.proofs.Common.{◌+◌, arith}
use Rattle.am_report.specs.declared.fault.ReportKind.TheVariants as kinds
use Rattle.byte_text.specs.Lines.{line_number}
use Rattle.am_report.specs.Reading.{end_read}
use Rattle.am_report.proofs.ReportSteps.{at_fault, end_read-missing, end_read-done, end_read-more}
use Rattle.am_report.proofs.reading.read_end.Goals as goal

pub returns-in-None : goal.returns-in-None
returns-in-None c =
    at_fault (end_read c.args.bytes.now c.args.at) c.fault_at.result (line_number c.args.bytes.now c.args.at) kinds.End c.fault_at.ensures
    (end_read-missing c.args.bytes.now c.args.at c.in-None.ensures)

pub returns-in-Some-empty : goal.returns-in-Some-empty
returns-in-Some-empty c = end_read-done c.args.bytes.now c.args.at c.in-Some-empty.field-0.now (omega arith) c.in-Some-empty.ensures

pub returns-in-Some : goal.returns-in-Some
returns-in-Some c =
    at_fault (end_read c.args.bytes.now c.args.at) c.fault_at-in-Some.result (line_number c.args.bytes.now (c.args.at + 4)) kinds.End c.fault_at-in-Some.ensures
    (end_read-more c.args.bytes.now c.args.at c.in-Some.field-0.now (omega arith) c.in-Some.ensures)
