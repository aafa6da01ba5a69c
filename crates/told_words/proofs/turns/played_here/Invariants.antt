use Rattle.std.proofs.Common.{length}
use Rattle.card_sets.specs.SetWords.{IsCardSet}
use Rattle.told_words.specs.Turns.{manner_of, same_manner}
use Rattle.told_words.proofs.PlayedSets.{Collected}
use Rattle.told_words.proofs.turns.played_here.Given as goal

abbrev pub invariant-cards : goal.invariant-cards
invariant-cards l = record {
  a_set : IsCardSet l.here;
  each : Collected l.initial.left (λ card. same_manner (manner_of l.place.position card) l.manner) l.here l.left;
}

abbrev pub decreases-cards : goal.decreases-cards
decreases-cards l = length l.left
