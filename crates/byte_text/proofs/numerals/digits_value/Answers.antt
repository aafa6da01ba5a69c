use Rattle.std.proofs.Common.{◌+◌, arith}
use Rattle.byte_text.proofs.ReadNumbers.{digit_from, value_more, value_beyond}
use Rattle.byte_text.proofs.numerals.digits_value.Goals as goal

pub overflow_sub-digit : goal.overflow_sub-digit
overflow_sub-digit c = digit_from c.args.text.now c.loop-digit.digit-index c.requires (omega arith)

pub returns-then-next-from : goal.returns-then-next-from
returns-then-next-from c =
    let next = value_more c.args.text.now c.loop-digit.digit-index c.loop-digit.number c.requires (omega arith) c.loop-digit.invariant.so_far in
    value_beyond c.args.text.now (c.loop-digit.digit-index + 1) c.args.most (omega (arith, next))

pub loop-digit-preserved : goal.loop-digit-preserved
loop-digit-preserved c =
    let next = value_more c.args.text.now c.loop-digit.digit-index c.loop-digit.number c.requires (omega arith) c.loop-digit.invariant.so_far in
    record { so_far = omega (arith, next); within = omega arith }
