use Rattle.std.proofs.Common.{◌≡◌, length}
use Rattle.card_sets.specs.SetWords.{IsSubset}
use Rattle.trick_rules.specs.Positions.{State}
use Rattle.trick_rules.specs.Play.{cards_left, legal_in, makes}
use Rattle.double_dummy.specs.Choices.{choice_makes}
use Rattle.double_dummy.proofs.plain.+makes_plain.Given as goal

abbrev pub decreases-makes_plain : goal.decreases-makes_plain
decreases-makes_plain l = cards_left l.position.now

abbrev pub invariant-loop-card : goal.invariant-loop-card
invariant-loop-card l =
    let s : State = record { position = l.position; left = l.left } in
    record { answer : makes s ≡ choice_makes l.ours s l.cards; legal : IsSubset l.cards (legal_in s) }

abbrev pub decreases-loop-card : goal.decreases-loop-card
decreases-loop-card l = length l.cards
