use Rattle.std.proofs.Common.{◌≡◌, ◌<◌, ◌*◌, ◌+◌, ◌%◌, arith, length}
use Rattle.win_vectors.proofs.WordVectors.{PutsBits-at, PutsBits-across}
use Rattle.win_vectors.proofs.words.put_bits.Goals as goal

pub returns-then-place-ne0 : goal.returns-then-place-ne0
returns-then-place-ne0 c =
    let at : c.args.start ≡ 64 * c.from-word.result + c.args.start % 64 = omega (arith, c.from-word.ensures) in
    let within : c.from-word.result + 1 < length c.args.words.now = omega (arith, c.from-word.ensures, c.told-words) in
    PutsBits-across c.args.words.now c.args.start c.from-word.result (c.args.start % 64) c.args.bits at (omega arith) within c.ranges.bits.fits c.requires.clear

pub returns-else-place-ne0 : goal.returns-else-place-ne0
returns-else-place-ne0 c =
    let at : c.args.start ≡ 64 * c.from-word.result = omega (arith, c.from-word.ensures) in
    let within : c.from-word.result < length c.args.words.now = omega (arith, c.from-word.ensures, c.told-words) in
    rw c.if-place-ne0.false (PutsBits-at c.args.words.now c.args.start c.from-word.result c.args.bits at within c.ranges.bits.fits c.requires.clear)
