use Rattle.std.proofs.Common.{◌≡◌, take}
use Rattle.trick_rules.proofs.trick.Trick.copy.Given as goal

abbrev pub invariant-loop-card : goal.invariant-loop-card
invariant-loop-card l = l.cards.items ≡ take l.card-index l.card-items
