use Rattle.std.proofs.Common.{◌≡◌}
use Rattle.card_sets.specs.Raised.{with_raised}
use Rattle.equivalent_nodes.proofs.Hands.{first_mapped}
use Rattle.equivalent_nodes.proofs.ranks.close_gap.Given as goal

abbrev pub invariant-loop-hand : goal.invariant-loop-hand
invariant-loop-hand l = l.hands ≡ first_mapped (with_raised l.gap) l.hand-index l.initial.hands
