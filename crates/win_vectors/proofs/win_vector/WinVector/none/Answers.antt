use Rattle.win_vectors.proofs.WordVectors.{AreVectorWords-none, bits_of-zeros}
use Rattle.win_vectors.proofs.win_vector.WinVector.none.Goals as goal

pub invariant_of-result : goal.invariant_of-result
invariant_of-result c = AreVectorWords-none c.args.width c.requires.low c.requires.high

pub returns : goal.returns
returns c = bits_of-zeros c.args.width
