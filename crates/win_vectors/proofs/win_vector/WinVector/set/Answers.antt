use Rattle.std.proofs.Common.{◌≡◌, ◌<◌, ◌*◌, ◌+◌, ◌%◌, arith, get_or, length}
use Rattle.bit_lists.proofs.Words.{length-bits_of}
use Rattle.win_vectors.proofs.WordBits.{SetsPlace, SetsPlace-one, SetsPlace-zero}
use Rattle.win_vectors.proofs.WordVectors.{AreVectorWords-set, bits_of-set}
use Rattle.win_vectors.proofs.win_vector.WinVector.set.Goals as goal
use Rattle.win_vectors.proofs.win_vector.WinVector.set.Goals.{then-bit, else-bit}

-- the new word, whichever the bit
new_word : (c : goal.Joined-bit) → SetsPlace (get_or c.self.inside.words c.from-word.result 0) (c.args.place % 64) c.args.bit c.if-bit.words
new_word c =
    let low : c.args.place % 64 < 64 = omega arith in
    elim c.if-bit.branch [
      | then-bit w ↦
          rw (w.if-bit.true, w.words-is) (SetsPlace-one (get_or c.self.inside.words c.from-word.result 0) (c.args.place % 64) low (c.self.invariant.fit c.from-word.result))
      | else-bit w ↦
          rw (w.if-bit.false, w.words-is) (SetsPlace-zero (get_or c.self.inside.words c.from-word.result 0) (c.args.place % 64) low (c.self.invariant.fit c.from-word.result))
    ]

pub invariant_of-result : goal.invariant_of-result
invariant_of-result c =
    let within : c.args.place < c.self.inside.width = rw (← c.self.view_is, length-bits_of c.self.inside.width c.self.inside.words) at c.requires in
    let at : c.args.place ≡ 64 * c.from-word.result + c.args.place % 64 = omega (arith, c.from-word.ensures) in
    AreVectorWords-set c.self.inside.width c.self.inside.words c.from-word.result (c.args.place % 64) c.args.bit c.if-bit.words c.args.place at within (omega arith) c.self.invariant (new_word c)

pub returns : goal.returns
returns c =
    let within : c.args.place < c.self.inside.width = rw (← c.self.view_is, length-bits_of c.self.inside.width c.self.inside.words) at c.requires in
    let at : c.args.place ≡ 64 * c.from-word.result + c.args.place % 64 = omega (arith, c.from-word.ensures) in
    let in_words : c.from-word.result < length c.self.inside.words = omega (arith, c.self.invariant.high, c.self.invariant.four, c.from-word.ensures) in
    rw (← c.self.view_is)
    (bits_of-set c.self.inside.width c.self.inside.words c.from-word.result (c.args.place % 64) c.args.bit c.if-bit.words c.args.place at within in_words (omega arith) (new_word c))
