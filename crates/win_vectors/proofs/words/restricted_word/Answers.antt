use Rattle.std.proofs.Common.{◌≡◌, ◌<◌, arith, true, false}
use Rattle.std.proofs.lemmas.Bool.{eq-eqb, ne_eqb}
use Rattle.std.proofs.lemmas.Nat.Bits.{shr_and_one}
use Rattle.bit_lists.specs.Bits.{has_bit}
use Rattle.win_vectors.proofs.WordBits.{Restricts-none, Restricts-one, Restricts-zero, Restricts-narrow, Restricts-end}
use Rattle.win_vectors.proofs.words.restricted_word.Goals as goal
use Rattle.win_vectors.proofs.words.restricted_word.Goals.{then-mask-place-eq1, else-mask-place-eq1}

pub loop-place-init : goal.loop-place-init
loop-place-init c = Restricts-none c.args.bits c.args.mask

pub overflow_shl-restricted : goal.overflow_shl-restricted
overflow_shl-restricted c =
    let high : c.loop-place.place < 64 = omega arith in
    Restricts-narrow c.args.bits c.args.mask c.loop-place.place c.loop-place.width c.loop-place.restricted high c.loop-place.invariant

pub overflow_add-width : goal.overflow_add-width
overflow_add-width c =
    let high : c.loop-place.place < 64 = omega arith in
    omega (arith, Restricts-narrow c.args.bits c.args.mask c.loop-place.place c.loop-place.width c.loop-place.restricted high c.loop-place.invariant)

pub loop-place-preserved : goal.loop-place-preserved
loop-place-preserved c =
    let high : c.loop-place.place < 64 = omega arith in
    elim c.if-mask-place-eq1.branch [
      | then-mask-place-eq1 w ↦
          let here : has_bit c.args.mask c.loop-place.place ≡ true = eq-eqb _ _ (rw shr_and_one at w.if-mask-place-eq1.true) in
          rw (w.restricted-is, w.width-is, shr_and_one) (Restricts-one c.args.bits c.args.mask c.loop-place.place c.loop-place.width c.loop-place.restricted high here c.loop-place.invariant)
      | else-mask-place-eq1 w ↦
          let here : has_bit c.args.mask c.loop-place.place ≡ false = ne_eqb _ _ (rw shr_and_one at w.if-mask-place-eq1.false) in
          rw (w.restricted-is, w.width-is) (Restricts-zero c.args.bits c.args.mask c.loop-place.place c.loop-place.width c.loop-place.restricted here c.loop-place.invariant)
    ]

pub returns : goal.returns
returns c =
    let whole : c.loop-place.place ≡ c.args.places = omega arith in
    rw (← whole) (Restricts-end c.args.bits c.args.mask c.loop-place.place c.loop-place.width c.loop-place.restricted c.loop-place.invariant)
