use Rattle.std.proofs.Common.{◌-◌, sym, ◌∙◌}
use Rattle.trick_rules.specs.Nodes.{child}
use Rattle.trick_rules.proofs.NodeLemmas.{child-IsNode}
use Rattle.strategy_tree.proofs.BridgeLaws as laws
use Rattle.alphamu_core.proofs.OpenNodes.{length-our_child}
use Rattle.bit_answers.proofs.worths.worth_of.Goals as goal

pub first_best-best-requires-clause-filled : goal.first_best-best-requires-clause-filled
first_best-best-requires-clause-filled c =
    let n = c.args.asked.now.node in
    let card = c.args.believed.now.card in
    laws.one_front.filled (child n card) (c.args.asked.now.moves - 1) c.args.front.now.vectors (child-IsNode n card c.width-width.ensures.a_node c.requires.card) c.requires.front.front

pub first_best-best-requires-clause-wide : goal.first_best-best-requires-clause-wide
first_best-best-requires-clause-wide c =
    c.requires.front.width ∙ length-our_child c.args.asked.now.node c.args.believed.now.card c.requires.ready.turn.ours c.requires.card ∙ sym c.requires.ready.weighed
