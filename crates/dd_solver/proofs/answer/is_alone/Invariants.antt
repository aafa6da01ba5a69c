use Rattle.std.proofs.Common.{◌≢◌, ℕ, ◌<◌, get_or}
use Rattle.card_sets.specs.Cards.{suit_of}
use Rattle.dd_solver.proofs.answer.is_alone.Given as goal

abbrev pub invariant-loop-other : goal.invariant-loop-other
invariant-loop-other l = (k : ℕ) → k < l.other → k ≢ l.place → suit_of (get_or l.card-items k 0) ≢ suit_of (get_or l.card-items l.place 0)
