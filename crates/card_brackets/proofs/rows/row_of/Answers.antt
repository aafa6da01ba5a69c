use Rattle.std.proofs.Common.{◌-◌, sym, ◌∙◌}
use Rattle.trick_rules.specs.Nodes.{child}
use Rattle.trick_rules.proofs.NodeLemmas.{child-IsNode}
use Rattle.strategy_tree.proofs.BridgeLaws as laws
use Rattle.alphamu_core.proofs.OpenNodes.{length-our_child}
use Rattle.card_brackets.proofs.rows.row_of.Goals as goal

pub first_best-vector-requires-clause-filled : goal.first_best-vector-requires-clause-filled
first_best-vector-requires-clause-filled c =
    let n = c.args.question.now.node.now in
    let card = c.args.believed.now.card in
    laws.one_front.filled (child n card) (c.args.question.now.moves - 1) c.args.bounds.now.front.vectors (child-IsNode n card c.width-width.ensures.a_node c.requires.card) c.requires.front.front

pub first_best-vector-requires-clause-wide : goal.first_best-vector-requires-clause-wide
first_best-vector-requires-clause-wide c =
    c.requires.front.width ∙ length-our_child c.args.question.now.node.now c.args.believed.now.card c.requires.question.ours c.requires.card ∙ sym c.requires.question.weights
