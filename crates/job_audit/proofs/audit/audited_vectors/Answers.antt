use Rattle.std.proofs.Common.{◌∙◌, List, map, ap}
use Rattle.am_report.specs.Answers.{ReadEntryValue}
use Rattle.am_report.specs.Reading.{report_of}
use Rattle.job_audit.proofs.Audited.{other_head, other_width, same_widths}
use Rattle.job_audit.proofs.audit.audited_vectors.Goals as goal

pub returns-then-not-branch-clause-refused : goal.returns-then-not-branch-clause-refused
returns-then-not-branch-clause-refused c = other_head c.args.root.now (report_of c.args.report.now) c.args.log.now c.in_ok-has_head.field-0 c.in_ok-has_head.ensures c.if-not-branch.true

pub returns-in-Some-clause-refused : goal.returns-in-Some-clause-refused
returns-in-Some-clause-refused c =
    other_width _ c.args.root.now c.root.view_is (report_of c.args.report.now) c.args.log.now c.in_ok-has_head.field-0 c.in_ok-has_head.ensures c.if-not-branch.false c.width.result c.width.ensures.value c.deref-2.result.now c.in_ok-vectors.vectors.items c.deref-2.ensures.value
    (c.in_ok-vectors.ensures ∙ ap (λ (entries : List ReadEntryValue). map (λ read. read.entry.vector) entries) c.deref.ensures.value) c.in-Some.number c.in-Some.ensures

pub returns-in-None-clause-vectors : goal.returns-in-None-clause-vectors
returns-in-None-clause-vectors c =
    same_widths _ c.args.root.now c.root.view_is (report_of c.args.report.now) c.args.log.now c.in_ok-has_head.field-0 c.in_ok-has_head.ensures c.if-not-branch.false c.width.result c.width.ensures.value c.deref-2.result.now c.in_ok-vectors.vectors.items c.deref-2.ensures.value
    (c.in_ok-vectors.ensures ∙ ap (λ (entries : List ReadEntryValue). map (λ read. read.entry.vector) entries) c.deref.ensures.value) c.in-None.ensures
