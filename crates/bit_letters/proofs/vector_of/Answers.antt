use Rattle.std.proofs.Common.{◌≡◌, ◌∙◌, length, get_or, take, map, refl, arith}
use Rattle.std.proofs.lemmas.List.{length-map, length-take-le}
use Rattle.std.proofs.Math.ListN.{length-set}
use Rattle.bit_letters.specs.Bits.{is_one}
use Rattle.bit_letters.proofs.Read.{bit_read}
use Rattle.bit_letters.proofs.vector_of.Goals as goal

pub loop-place-preserved : goal.loop-place-preserved
loop-place-preserved c =
    let text = c.args.text.now in
    let i = c.loop-place.place in
    let at : i ≡ length (map is_one (take i text)) = omega (arith, length-map (take i text) is_one, length-take-le i text (omega arith)) in
    let more = bit_read text i c.loop-place.vector (is_one (get_or text i 0)) (omega arith) at refl c.loop-place.invariant.bits in
    record { wide = rw (c.set-vector.ensures, length-set) c.loop-place.invariant.wide; bits = c.set-vector.ensures ∙ more }
