use Rattle.std.proofs.Common.{sym, arith}
use Rattle.win_vectors.proofs.WordOrders.{ones_of-words, ones_of-narrow}
use Rattle.win_vectors.proofs.win_vector.WinVector.count.Goals as goal

pub returns-then-self-le-WORD_PLACES : goal.returns-then-self-le-WORD_PLACES
returns-then-self-le-WORD_PLACES c = rw (← c.self.view_is) (sym (ones_of-narrow c.self.inside.width c.self.inside.words c.self.invariant (omega arith)))

pub returns : goal.returns
returns c = rw (← c.self.view_is) (sym (ones_of-words c.self.inside.width c.self.inside.words c.self.invariant))
