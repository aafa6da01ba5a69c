use Rattle.std.proofs.Common.{arith}
use Rattle.win_vectors.proofs.WordVectors.{AreVectorWords-ones, bits_of-ones}
use Rattle.win_vectors.proofs.win_vector.WinVector.all.Goals as goal

pub invariant_of-result : goal.invariant_of-result
invariant_of-result c =
    AreVectorWords-ones c.args.width c.ones_below.result c.ones_below-2.result c.ones_below-3.result c.ones_below-4.result
    c.requires.low c.requires.high (omega arith) (omega arith) (omega arith) (omega arith)
    (record { first = c.ones_below.ensures; second = c.ones_below-2.ensures; third = c.ones_below-3.ensures; fourth = c.ones_below-4.ensures })

pub returns : goal.returns
returns c =
    bits_of-ones c.args.width c.ones_below.result c.ones_below-2.result c.ones_below-3.result c.ones_below-4.result c.requires.high
    (record { first = c.ones_below.ensures; second = c.ones_below-2.ensures; third = c.ones_below-3.ensures; fourth = c.ones_below-4.ensures })
