use Rattle.win_vectors.proofs.WordBits.{Spreads}
use Rattle.win_vectors.proofs.words.spread_word.Given as goal

abbrev pub invariant-loop-place : goal.invariant-loop-place
invariant-loop-place l = Spreads l.fn.bits l.fn.mask l.place l.from l.spread
