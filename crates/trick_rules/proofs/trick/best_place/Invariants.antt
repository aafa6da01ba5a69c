use Rattle.std.proofs.Common.{map, get_or}
use Rattle.card_sets.specs.Cards.{suit_of}
use Rattle.trick_rules.specs.Play.{strength}
use Rattle.trick_rules.proofs.TrickLemmas.{IsHighest}
use Rattle.trick_rules.proofs.trick.best_place.Given as goal

abbrev pub invariant-loop-place : goal.invariant-loop-place
invariant-loop-place l = IsHighest (map (strength l.trump (suit_of (get_or l.cards 0 0))) l.cards) l.place l.best
