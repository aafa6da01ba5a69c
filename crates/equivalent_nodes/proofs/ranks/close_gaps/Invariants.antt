use Rattle.std.proofs.Common.{◌≡◌, map, length}
use Rattle.equivalent_nodes.specs.Ranks.{with_gaps_closed as closed_up}
use Rattle.equivalent_nodes.proofs.ranks.close_gaps.Given as goal

-- what the gaps that are left make of the hands so far
abbrev pub invariant-loop-gap : goal.invariant-loop-gap
invariant-loop-gap l = map (closed_up l.rest) l.hands ≡ map (closed_up l.fn.gaps) l.initial.hands

abbrev pub decreases-loop-gap : goal.decreases-loop-gap
decreases-loop-gap l = length l.rest
