use Rattle.std.proofs.Common.{◌≡◌, take}
use Rattle.told_words.specs.Turns.{after_cards}
use Rattle.told_words.proofs.turns.after_cards.Given as goal

abbrev pub invariant-loop-place : goal.invariant-loop-place
invariant-loop-place l = l.after.items ≡ after_cards l.cards (take l.place-index l.places)
