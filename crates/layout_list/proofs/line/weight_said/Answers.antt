use Rattle.std.proofs.Common.{◌+◌, sym, arith}
use Rattle.byte_text.proofs.ReadNumbers.{digit_from, value_more, value_beyond}
use Rattle.layout_list.proofs.ReadWeights.{weight_said-beyond}
use Rattle.layout_list.proofs.line.weight_said.Goals as goal

pub overflow_sub-digit : goal.overflow_sub-digit
overflow_sub-digit c = digit_from c.args.digits.now c.loop-digit.digit-index c.requires (omega arith)

pub returns-then-weight-gt-MAX_WEIGHT-clause-weight : goal.returns-then-weight-gt-MAX_WEIGHT-clause-weight
returns-then-weight-gt-MAX_WEIGHT-clause-weight c =
    let digits = c.args.digits.now in
    let i = c.loop-digit.digit-index in
    let next = value_more digits i c.loop-digit.weight c.requires (omega arith) c.loop-digit.invariant.so_far in
    sym (weight_said-beyond digits (value_beyond digits (i + 1) 1000000 (omega (arith, next))))

pub loop-digit-preserved : goal.loop-digit-preserved
loop-digit-preserved c =
    let next = value_more c.args.digits.now c.loop-digit.digit-index c.loop-digit.weight c.requires (omega arith) c.loop-digit.invariant.so_far in
    record { so_far = omega (arith, next); within = omega arith }
