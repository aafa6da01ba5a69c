use Rattle.win_vectors.proofs.Masks.{SpreadsWords, done_at}
use Rattle.win_vectors.proofs.win_vector.WinVector.spread.Given as goal

abbrev pub invariant-loop-word : goal.invariant-loop-word
invariant-loop-word l = SpreadsWords l.self-inside.words l.mask-inside.words (done_at l.mask-inside.width l.word) l.from l.words
