use Rattle.std.proofs.Common.{◌≡◌, ◌++◌, length}
use Rattle.told_words.specs.Phrases.{more_cards}
use Rattle.told_words.proofs.phrases.push_cards.Given as goal

abbrev pub invariant-cards : goal.invariant-cards
invariant-cards l = l.out ++ more_cards l.left ≡ l.initial.out ++ more_cards l.initial.left

abbrev pub decreases-cards : goal.decreases-cards
decreases-cards l = length l.left
