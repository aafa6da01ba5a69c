use Rattle.std.proofs.Common.{rules}
use Rattle.byte_text.proofs.ReadLines.{line_at-ends, line_at-open}
use Rattle.byte_text.proofs.lines.line_at.Goals as goal

pub returns-in_err-line_end-clause-value : goal.returns-in_err-line_end-clause-value
returns-in_err-line_end-clause-value c =
    rw (← line_at-open c.args.bytes.now c.args.at c.in_err-line_end.ensures.value) (search rules)

pub returns-clause-value : goal.returns-clause-value
returns-clause-value c = line_at-ends c.args.bytes.now c.args.at c.in_ok-line_end.field-0 c.in_ok-line_end.ensures.value
