use Rattle.std.proofs.Common.{◌∙◌, Some, sym, ap, arith}
use Rattle.byte_text.proofs.ReadNumbers.{number_within-no_numeral, number_within-beyond, number_within-below, number_within-numeral}
use Rattle.byte_text.proofs.numerals.read_number.Goals as goal

pub returns-then-not-is_numeral-clause-value : goal.returns-then-not-is_numeral-clause-value
returns-then-not-is_numeral-clause-value c =
    sym (number_within-no_numeral c.args.least c.args.most c.args.text.now (sym c.if-not-is_numeral.ensures) (omega arith))

pub returns-in_err-number-clause-value : goal.returns-in_err-number-clause-value
returns-in_err-number-clause-value c =
    c.from_residual.ensures ∙ sym (number_within-beyond c.args.least c.args.most c.args.text.now c.in_err-number.ensures)

pub returns-then-number-least-clause-value : goal.returns-then-number-least-clause-value
returns-then-number-least-clause-value c =
    sym (number_within-below c.args.least c.args.most c.args.text.now (omega (arith, c.in_ok-number.ensures.0)))

pub returns-clause-value : goal.returns-clause-value
returns-clause-value c =
    let is = c.in_ok-number.ensures.0 in
    let high = c.in_ok-number.ensures.1 in
    ap (λ n. Some n) is
    ∙ sym (number_within-numeral c.args.least c.args.most c.args.text.now (sym c.if-not-is_numeral.ensures) (omega (arith, is)) (omega (arith, is, high)) (omega arith))
