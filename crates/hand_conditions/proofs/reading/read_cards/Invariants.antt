use Rattle.std.proofs.Common.{◌≡◌, [], length}
use Rattle.byte_text.specs.Blanks.{words}
use Rattle.hand_conditions.specs.Reading.{cards_named}
use Rattle.hand_conditions.proofs.reading.read_cards.Given as goal

abbrev pub invariant-words : goal.invariant-words
invariant-words l = cards_named [] (words l.text) ≡ cards_named l.cards (words l.rest)

abbrev pub decreases-words : goal.decreases-words
decreases-words l = length (words l.rest)
