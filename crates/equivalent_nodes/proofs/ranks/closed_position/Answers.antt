use Rattle.std.proofs.Common.{sym, ap, subst, ◌∙◌}
use Rattle.trick_rules.specs.Positions.{PositionValue, IsSound}
use Rattle.trick_rules.proofs.Inside.{seen_as}
use Rattle.equivalent_nodes.specs.Ranks.{with_gaps_closed_in}
use Rattle.equivalent_nodes.proofs.Relative.{position_is}
use Rattle.equivalent_nodes.proofs.ranks.closed_position.Goals as goal

pub invariant_of-result : goal.invariant_of-result
invariant_of-result c =
    let t = seen_as c.position.inside in
    subst IsSound
    (sym (position_is t c.args.gaps c.with_gaps_closed.result c.with_gaps_closed-2.result c.with_gaps_closed-3.result c.copy.result
    c.with_gaps_closed.ensures c.with_gaps_closed-2.ensures c.with_gaps_closed-3.ensures c.copy.ensures))
    (rw (← c.position.view_is) at c.requires)

pub returns : goal.returns
returns c =
    let t = seen_as c.position.inside in
    position_is t c.args.gaps c.with_gaps_closed.result c.with_gaps_closed-2.result c.with_gaps_closed-3.result c.copy.result
    c.with_gaps_closed.ensures c.with_gaps_closed-2.ensures c.with_gaps_closed-3.ensures c.copy.ensures
    ∙ ap (λ (u : PositionValue). with_gaps_closed_in c.args.gaps u) c.position.view_is
