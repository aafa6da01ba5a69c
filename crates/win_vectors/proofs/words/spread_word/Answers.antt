use Rattle.std.proofs.Common.{◌≡◌, ◌<◌, arith}
use Rattle.std.proofs.lemmas.Nat.Bits.{shr_and_one}
use Rattle.win_vectors.proofs.WordBits.{Spreads-none, Spreads-more, Spreads-end}
use Rattle.win_vectors.proofs.words.spread_word.Goals as goal

pub loop-place-init : goal.loop-place-init
loop-place-init c = Spreads-none c.args.bits c.args.mask

pub loop-place-preserved : goal.loop-place-preserved
loop-place-preserved c =
    let high : c.loop-place.place < 64 = omega arith in
    Spreads-more c.args.bits c.args.mask c.loop-place.place c.loop-place.from c.loop-place.spread _ high
    (shr_and_one c.args.mask c.loop-place.place) c.loop-place.invariant

pub returns : goal.returns
returns c =
    let whole : c.loop-place.place ≡ c.args.places = omega arith in
    rw (← whole) (Spreads-end c.args.bits c.args.mask c.loop-place.place c.loop-place.from c.loop-place.spread c.loop-place.invariant)
