use Rattle.std.proofs.Common.{◌≡◌, ◌<◌, ℕ, get_or}
use Rattle.win_vectors.proofs.words.first_difference.Given as goal

-- the words so far are the same
abbrev pub invariant-loop-word : goal.invariant-loop-word
invariant-loop-word l = (word : ℕ) → word < l.word → get_or l.ours word 0 ≡ get_or l.theirs word 0
