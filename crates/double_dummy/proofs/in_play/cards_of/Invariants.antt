use Rattle.std.proofs.Common.{◌≡◌}
use Rattle.double_dummy.proofs.InPlay.{first_of}
use Rattle.double_dummy.proofs.in_play.cards_of.Given as goal

abbrev pub invariant-loop-card : goal.invariant-loop-card
invariant-loop-card l = l.cards ≡ first_of l.card-index l.card-items
