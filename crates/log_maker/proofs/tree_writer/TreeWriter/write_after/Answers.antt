use Rattle.std.proofs.Common.{◌≡◌, ◌+◌, ◌∙◌, List, ℕ, length, ap, arith}
use Rattle.std.proofs.lemmas.List.{length_push}
use Rattle.trick_rules.specs.Play.{cards_left}
use Rattle.trick_rules.specs.Nodes.{NodeValue, choices, child}
use Rattle.strategy_tree.proofs.BridgeNodes.{cards_left-child}
use Rattle.strategy_tree.proofs.CardLists.{has_card-from_Contains}
use Rattle.strategy_tree.proofs.PackSize.{cards_left-le_52}
use Rattle.log_maker.proofs.tree_writer.TreeWriter.write_after.Goals as goal

pub write_node-requires-clause-path : goal.write_node-requires-clause-path
write_node-requires-clause-path c =
    let n = c.args.node.now in
    let long : length c.path_after-behind.result ≡ length c.new.result + 1
    = ap (λ (p : List ℕ). length p) c.path_after-behind.ensures ∙ length_push c.new.result c.args.card in
    let none : length c.new.result ≡ 0 = ap (λ (p : List ℕ). length p) c.new.ensures in
    let same : cards_left c.in_ok-child.child.position ≡ cards_left (child n c.args.card).position
    = ap (λ (m : NodeValue). cards_left m.position) c.in_ok-child.ensures.node in
    let fewer = cards_left-child n c.args.card c.requires.a_node (has_card-from_Contains (choices n) c.args.card c.requires.card) in
    let most = cards_left-le_52 n.position c.requires.a_node.sound in
    omega arith
