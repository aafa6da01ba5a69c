use Rattle.std.proofs.Common.{◌∙◌, Ok, sym, ap}
use Rattle.std.proofs.lemmas.Result.{err_from_is_err_and}
use Rattle.byte_text.specs.Lines.{said_at}
use Rattle.am_report.specs.declared.fault.ReportKind.TheVariants as kinds
use Rattle.am_report.specs.ReportLines.{card_said}
use Rattle.am_report.specs.Reading.{expected, head_read, entries_read, end_read, below_read}
use Rattle.am_report.proofs.ReportSteps.{same_fault, below_read-head_fault, below_read-front_fault, below_read-no_card, below_read-end_fault, below_read-whole}
use Rattle.am_report.proofs.reading.read_below.Goals as goal

pub returns-in_err-head-clause-fault : goal.returns-in_err-head-clause-fault
returns-in_err-head-clause-fault c =
    let bytes = c.args.bytes.now in
    let p = err_from_is_err_and c.from_residual.result c.from_residual.ensures.1 in
    rw (p.1, p.2) (same_fault (head_read bytes) (below_read c.args.version bytes) c.in_err-head.field-0.0 c.in_err-head.ensures.read (λ found e. below_read-head_fault c.args.version bytes found e))

pub returns-in_err-entries-clause-fault : goal.returns-in_err-entries-clause-fault
returns-in_err-entries-clause-fault c =
    let bytes = c.args.bytes.now in
    let head = c.in_ok-head.head in
    let p = err_from_is_err_and c.from_residual-in_err-entries.result c.from_residual-in_err-entries.ensures.1 in
    rw (p.1, p.2) (same_fault (entries_read c.args.version head.vectors bytes head.next) (below_read c.args.version bytes) c.in_err-entries.field-0.0 c.in_err-entries.ensures.fault (λ found e. below_read-front_fault c.args.version bytes head c.in_ok-head.ensures.read found e))

pub returns-in_err-named-clause-fault : goal.returns-in_err-named-clause-fault
returns-in_err-named-clause-fault c =
    let bytes = c.args.bytes.now in
    let at = c.in_ok-entries.at in
    let p = err_from_is_err_and c.from_residual-in_err-named.result c.from_residual-in_err-named.ensures.1 in
    rw (p.1, p.2) (same_fault (expected kinds.Card bytes at (said_at (card_said c.args.version) bytes at)) (below_read c.args.version bytes) c.in_err-named.field-0.0 c.in_err-named.ensures.read
    (λ found e. below_read-no_card c.args.version bytes c.in_ok-head.head c.in_ok-head.ensures.read c.in_ok-entries.entries.items at c.in_ok-entries.ensures.read found e))

pub returns-in_err-read_end-clause-fault : goal.returns-in_err-read_end-clause-fault
returns-in_err-read_end-clause-fault c =
    let bytes = c.args.bytes.now in
    let at = c.in_ok-entries.at in
    let next = c.in_ok-named.next in
    let p = err_from_is_err_and c.from_residual-in_err-read_end.result c.from_residual-in_err-read_end.ensures.1 in
    rw (p.1, p.2) (same_fault (end_read bytes next) (below_read c.args.version bytes) c.in_err-read_end.field-0.0 c.in_err-read_end.ensures
    (λ found e. below_read-end_fault c.args.version bytes c.in_ok-head.head c.in_ok-head.ensures.read c.in_ok-entries.entries.items at c.in_ok-entries.ensures.read c.in_ok-named.named next c.in_ok-named.ensures.read found e))

pub returns-clause-read : goal.returns-clause-read
returns-clause-read c =
    let bytes = c.args.bytes.now in
    let head = c.in_ok-head.head in
    let named = c.in_ok-named.named in
    let text = c.in-Ok.ensures in
    below_read-whole c.args.version bytes head c.in_ok-head.ensures.read c.in_ok-entries.entries.items c.in_ok-entries.at c.in_ok-entries.ensures.read named c.in_ok-named.next c.in_ok-named.ensures.read c.in_ok-read_end.field-0 c.in_ok-read_end.ensures
    ∙ ap (λ text. Ok (record { version = c.args.version; head = text; moves = head.moves; entries = c.in_ok-entries.entries.items; card = named.0; weight = named.1 })) (sym text)
