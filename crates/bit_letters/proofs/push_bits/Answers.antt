use Rattle.bit_letters.proofs.Written.{bit_written}
use Rattle.bit_letters.proofs.push_bits.Goals as goal

pub loop-place-preserved : goal.loop-place-preserved
loop-place-preserved c = bit_written c.args.text.now c.loop-place.text c.push.new.self c.args.vector c.loop-place.place c.get.result c.get.ensures
    c.loop-place.invariant (rw c.bit_letter.ensures at c.in_ok-push.ensures.appended)
