use Rattle.std.proofs.Common.{◌≡◌, true, length}
use Rattle.card_sets.specs.SetWords.{has_card}
use Rattle.set_search.proofs.card_order.widest.Given as goal

abbrev pub invariant-loop-card : goal.invariant-loop-card
invariant-loop-card l = has_card l.fn.cards l.best ≡ true

abbrev pub decreases-loop-card : goal.decreases-loop-card
decreases-loop-card l = length l.rest
