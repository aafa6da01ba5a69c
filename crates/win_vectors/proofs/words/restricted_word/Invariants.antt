use Rattle.win_vectors.proofs.WordBits.{Restricts}
use Rattle.win_vectors.proofs.words.restricted_word.Given as goal

abbrev pub invariant-loop-place : goal.invariant-loop-place
invariant-loop-place l = Restricts l.fn.bits l.fn.mask l.place l.width l.restricted
