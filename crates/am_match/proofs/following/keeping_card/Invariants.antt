use Rattle.std.proofs.Common.{◌≡◌, find, length}
use Rattle.card_sets.specs.SetWords.{IsSubset}
use Rattle.trick_rules.specs.Positions.{State}
use Rattle.trick_rules.specs.Play.{legal_in, after, makes}
use Rattle.am_match.proofs.following.keeping_card.Given as goal

abbrev pub invariant-loop-card : goal.invariant-loop-card
invariant-loop-card l =
    let s : State = record { position = l.position; left = l.left } in
    record {
      legal : IsSubset l.cards (legal_in s);
      same : find (λ c. makes (after s c)) (legal_in s) ≡ find (λ c. makes (after s c)) l.cards;
    }

abbrev pub decreases-loop-card : goal.decreases-loop-card
decreases-loop-card l = length l.cards
