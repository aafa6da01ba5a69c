use Rattle.std.proofs.Common.{◌≡◌, ℕ, ◌+◌, true, false, length}
use Rattle.card_sets.specs.Cards.{suit_of}
use Rattle.card_sets.specs.SetWords.{has_card, IsCardSet, IsSubset}
use Rattle.equivalent_positions.specs.Alike.{IsClosedUp}
use Rattle.dd_solver.proofs.enough.with_lower_equals.Given as goal

abbrev pub invariant-loop-legal : goal.invariant-loop-legal
invariant-loop-legal l = record {
  a_set : IsCardSet l.closed;
  closed : IsClosedUp l.closed;
  within : IsSubset l.fn.counting l.closed;
  others : (card : ℕ) → has_card l.legal card ≡ true → has_card l.closed card ≡ false → has_card l.rest card ≡ true;
  part : IsSubset l.lower l.rest;
  counts : (card : ℕ) → has_card l.lower card ≡ true → (has_card l.closed (card + 1) ≡ true) × (suit_of card ≡ suit_of (card + 1));
  all : (card : ℕ) → has_card l.rest card ≡ true → has_card l.legal (card + 1) ≡ true → has_card l.closed (card + 1) ≡ true → suit_of card ≡ suit_of (card + 1) → has_card l.lower card ≡ true;
}

abbrev pub decreases-loop-legal : goal.decreases-loop-legal
decreases-loop-legal l = length l.rest
