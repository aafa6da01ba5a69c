use Rattle.std.proofs.Common.{◌<◌, ◌≡◌, ◌*◌, ◌+◌, ◌%◌, ◌∙◌, ap, arith, Some, get_or, sym}
use Rattle.std.proofs.lemmas.Nat.Bits.{shr_and_one}
use Rattle.bit_lists.specs.Words.{bit_of}
use Rattle.bit_lists.proofs.Words.{length-bits_of, slice_get-bits_of, bit_of-word}
use Rattle.win_vectors.proofs.win_vector.WinVector.get.Goals as goal

pub returns : goal.returns
returns c =
    let within : c.args.place < c.self.inside.width = rw (← c.self.view_is, length-bits_of c.self.inside.width c.self.inside.words) at c.requires in
    let at : 64 * c.from.result + c.args.place % 64 ≡ c.args.place = omega (arith, c.from.ensures) in
    rw (← c.self.view_is, shr_and_one (get_or c.self.inside.words c.from.result 0) (c.args.place % 64))
    (slice_get-bits_of c.self.inside.width c.self.inside.words c.args.place within
    ∙ ap Some (ap (bit_of c.self.inside.words) (sym at) ∙ bit_of-word c.self.inside.words c.from.result (c.args.place % 64) (omega arith)))
