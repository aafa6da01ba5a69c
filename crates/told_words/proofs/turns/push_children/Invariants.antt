use Rattle.std.proofs.Common.{◌≡◌, ◌++◌, ℕ, true, map, length}
use Rattle.card_sets.specs.SetWords.{has_card}
use Rattle.trick_rules.specs.Nodes.{choices, child}
use Rattle.told_words.proofs.turns.push_children.Given as goal

abbrev pub invariant-cards : goal.invariant-cards
invariant-cards l = record {
  each : (card : ℕ) → has_card l.left card ≡ true → has_card (choices l.place) card ≡ true;
  so_far : l.after.items ++ map (child l.place) l.left ≡ l.initial.after.items ++ map (child l.place) l.initial.left;
}

abbrev pub decreases-cards : goal.decreases-cards
decreases-cards l = length l.left
