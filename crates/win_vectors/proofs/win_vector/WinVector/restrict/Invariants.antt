use Rattle.win_vectors.proofs.Masks.{RestrictsWords, done_at}
use Rattle.win_vectors.proofs.win_vector.WinVector.restrict.Given as goal

abbrev pub invariant-loop-word : goal.invariant-loop-word
invariant-loop-word l = RestrictsWords l.self-inside.words l.mask-inside.words (done_at l.self-inside.width l.word) l.width l.words
