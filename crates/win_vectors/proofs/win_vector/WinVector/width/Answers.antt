use Rattle.std.proofs.Common.{sym}
use Rattle.bit_lists.proofs.Words.{length-bits_of}
use Rattle.win_vectors.proofs.win_vector.WinVector.width.Goals as goal

pub returns-clause-value : goal.returns-clause-value
returns-clause-value c = rw (← c.self.view_is) (sym (length-bits_of c.self.inside.width c.self.inside.words))
