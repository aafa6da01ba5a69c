use Rattle.std.proofs.Common.{◌≡◌, ◌*◌, ◌+◌, ◌%◌, arith}
use Rattle.win_vectors.proofs.WordVectors.{IsWordFrom-at, IsWordFrom-across}
use Rattle.win_vectors.proofs.words.bits_from.Goals as goal

pub returns-then-place-eq0 : goal.returns-then-place-eq0
returns-then-place-eq0 c =
    let at : c.args.start ≡ 64 * c.from-word.result = omega (arith, c.from-word.ensures) in
    IsWordFrom-at c.args.words.now c.args.start c.from-word.result at

pub returns-else-place-eq0 : goal.returns-else-place-eq0
returns-else-place-eq0 c =
    let at : c.args.start ≡ 64 * c.from-word.result + c.args.start % 64 = omega (arith, c.from-word.ensures) in
    IsWordFrom-across c.args.words.now c.args.start c.from-word.result (c.args.start % 64) at (omega arith) (omega arith) (c.fits-words c.from-word.result)
