use Rattle.std.proofs.Common.{map}
use Rattle.equivalent_nodes.specs.Ranks.{with_gaps_closed as closed_up}
use Rattle.equivalent_nodes.proofs.Hands.{next_closed, none_left}
use Rattle.equivalent_nodes.proofs.ranks.close_gaps.Goals as goal

pub loop-gap-preserved : goal.loop-gap-preserved
loop-gap-preserved c =
    next_closed c.in-Some.gap c.loop-gap.rest c.pop_first.new.self c.loop-gap.hands c.close_gap.new.hands (map (closed_up c.args.gaps) c.args.hands.now)
    c.loop-gap.invariant c.in-Some.ensures.value c.close_gap.ensures

pub returns : goal.returns
returns c = none_left c.loop-gap.rest c.loop-gap.hands (map (closed_up c.args.gaps) c.args.hands.now) c.loop-gap.invariant c.in_default.ensures.value.0
