use Rattle.std.proofs.Common.{◌∙◌, length, sym, ap}
use Rattle.trick_rules.specs.Nodes.{NodeValue, choices}
use Rattle.strategy_tree.proofs.CardLists.{has_card-from_Contains}
use Rattle.alphamu_core.proofs.OpenNodes.{length-our_child}
use Rattle.root_workers.proofs.searches.after_card.Goals as goal

pub searched-requires-clause-width : goal.searched-requires-clause-width
searched-requires-clause-width g c =
    let same = ap (λ (m : NodeValue). length m.lefts) c.in_ok-child.ensures.node in
    c.requires.width ∙ sym (same ∙ length-our_child c.args.round.now.node.now c.args.card c.requires.round.asked.ours (has_card-from_Contains (choices c.args.round.now.node.now) c.args.card c.requires.card))
