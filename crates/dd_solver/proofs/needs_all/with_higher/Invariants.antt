use Rattle.std.proofs.Common.{◌≡◌, ◌⊎◌, ℕ, true, length}
use Rattle.card_sets.specs.SetWords.{has_card}
use Rattle.equivalent_positions.specs.Alike.{IsClosedUp}
use Rattle.dd_solver.proofs.needs_all.with_higher.Given as goal

abbrev pub invariant-loop-card : goal.invariant-loop-card
invariant-loop-card l = record {
  closed : IsClosedUp l.counting;
  covered : (c : ℕ) → has_card l.fn.cards c ≡ true → (has_card l.counting c ≡ true) ⊎ (has_card l.rest c ≡ true);
}

abbrev pub decreases-loop-card : goal.decreases-loop-card
decreases-loop-card l = length l.rest
