use Rattle.std.proofs.Common.{◌≡◌, sym, ap, ap₂, subst, ◌∙◌, IfOk}
use Rattle.trick_rules.specs.Positions.{IsSound}
use Rattle.trick_rules.specs.Nodes.{NodeValue, IsNode}
use Rattle.equivalent_nodes.specs.Ranks.{gaps_of as gaps_at, with_gaps_closed_in, with_gaps_closed_at}
use Rattle.equivalent_nodes.proofs.Relative.{all_closed, node_is, if_equivalent}
use Rattle.equivalent_nodes.proofs.ranks.with_all_closed.Goals as goal

pub closed_position-there-requires : goal.closed_position-there-requires
closed_position-there-requires c =
    let at = c.position-position.ensures.value in
    subst IsSound (sym (ap₂ (λ g x. with_gaps_closed_in g x) (c.gaps_of-gaps.ensures ∙ ap gaps_at at) at))
    (all_closed c.args.node.now c.position-position.ensures.a_node c.requires).node.sound

pub new-requires : goal.new-requires
new-requires c =
    let same = node_is c.args.node.now c.position-position.result.now c.closed_position-there.result c.gaps_of-gaps.result c.as_slice.result.now c.in_ok-lefts.lefts.items
    c.position-position.ensures.value c.gaps_of-gaps.ensures c.closed_position-there.ensures c.as_slice.ensures.value c.in_ok-lefts.ensures.lefts in
    subst IsNode (sym same) (all_closed c.args.node.now c.position-position.ensures.a_node c.requires).node

pub returns-clause-value : goal.returns-clause-value
returns-clause-value c =
    let same = node_is c.args.node.now c.position-position.result.now c.closed_position-there.result c.gaps_of-gaps.result c.as_slice.result.now c.in_ok-lefts.lefts.items
    c.position-position.ensures.value c.gaps_of-gaps.ensures c.closed_position-there.ensures c.as_slice.ensures.value c.in_ok-lefts.ensures.lefts in
    subst (λ (m : NodeValue). IfOk c.new.result (λ node. node ≡ m)) same c.new.ensures

pub returns-clause-equivalent : goal.returns-clause-equivalent
returns-clause-equivalent c =
    if_equivalent c.args.node.now (with_gaps_closed_at (gaps_at c.args.node.now.position) c.args.node.now) c.new.result
    (all_closed c.args.node.now c.position-position.ensures.a_node c.requires).equivalent (returns-clause-value c)
