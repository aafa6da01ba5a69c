use Rattle.std.proofs.Common.{◌≡◌, ◌∙◌, Some, None, Option, ℕ, sym, ap, arith}
use Rattle.std.specs.Prelude.{option_and_then}
use Rattle.std.specs.Str.{all_ascii_digits}
use Rattle.std.proofs.lemmas.Bool.Decides.{nat_tests}
use Rattle.job_words.specs.Values.{in_range}
use Rattle.job_words.proofs.NumberLemmas.{no_digits, parsed}
use Rattle.job_words.proofs.values.number_in.Goals as goal

pub returns-then-not-are_digits-clause-value :
    goal.returns-then-not-are_digits-clause-value
returns-then-not-are_digits-clause-value c =
    sym (no_digits c.args.least c.args.most c.args.text.now (ap all_ascii_digits (sym c.as_bytes.ensures.value) ∙ sym c.if-not-are_digits.ensures))

pub returns-in_err-number-clause-value : goal.returns-in_err-number-clause-value
returns-in_err-number-clause-value c =
    let read = parsed _ c.args.least c.args.most c.args.text.now c.parse.result c.parse.ensures.value.0 (omega arith) (ap all_ascii_digits (sym c.as_bytes.ensures.value) ∙ sym c.if-not-are_digits.ensures) in
    c.from_residual.ensures ∙ sym (read ∙ ap (option_and_then (in_range c.args.least c.args.most)) (sym c.in_err-number.ensures.value))

pub returns-then-number-most-clause-value : goal.returns-then-number-most-clause-value
returns-then-number-most-clause-value c =
    let read = parsed _ c.args.least c.args.most c.args.text.now c.parse.result c.parse.ensures.value.0 (omega arith) (ap all_ascii_digits (sym c.as_bytes.ensures.value) ∙ sym c.if-not-are_digits.ensures) in
    let within : Some c.in_ok-number.number ≡ in_range c.args.least c.args.most c.in_ok-number.number = grind (arith, nat_tests) in
    within ∙ sym (read ∙ ap (option_and_then (in_range c.args.least c.args.most)) (sym c.in_ok-number.ensures.value))

pub returns-else-least-number-clause-value : goal.returns-else-least-number-clause-value
returns-else-least-number-clause-value c =
    let read = parsed _ c.args.least c.args.most c.args.text.now c.parse.result c.parse.ensures.value.0 (omega arith) (ap all_ascii_digits (sym c.as_bytes.ensures.value) ∙ sym c.if-not-are_digits.ensures) in
    let beyond = c.else-least-number.either in
    let outside : ◌≡◌ {A = Option ℕ} None (in_range c.args.least c.args.most c.in_ok-number.number) = grind (arith, nat_tests) in
    outside ∙ sym (read ∙ ap (option_and_then (in_range c.args.least c.args.most)) (sym c.in_ok-number.ensures.value))
