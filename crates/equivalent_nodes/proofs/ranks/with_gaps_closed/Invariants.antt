use Rattle.std.proofs.Common.{◌≡◌, length}
use Rattle.equivalent_nodes.specs.Ranks.{with_gaps_closed as closed_up}
use Rattle.equivalent_nodes.proofs.ranks.with_gaps_closed.Given as goal

-- what the gaps that are left make of the cards so far
abbrev pub invariant-loop-gap : goal.invariant-loop-gap
invariant-loop-gap l = closed_up l.rest l.raised ≡ closed_up l.fn.gaps l.fn.cards

abbrev pub decreases-loop-gap : goal.decreases-loop-gap
decreases-loop-gap l = length l.rest
