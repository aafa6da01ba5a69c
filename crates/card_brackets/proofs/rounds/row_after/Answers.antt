use Rattle.std.proofs.Common.{◌≡◌, ◌∙◌, ◌-◌, ◌<◌, length, sym, ap, rules, arith}
use Rattle.std.proofs.lemmas.Grind.{common_steps}
use Rattle.trick_rules.specs.Nodes.{NodeValue, choices}
use Rattle.strategy_games.specs.Plans.{tree_size}
use Rattle.strategy_tree.specs.Bridge.{bridge}
use Rattle.alphamu_core.proofs.OpenNodes.{length-our_child}
use Rattle.card_brackets.proofs.Fitting.{large_after}
use Rattle.card_brackets.proofs.rounds.row_after.Goals as goal

pub bounds_after-requires-clause-width : goal.bounds_after-requires-clause-width
bounds_after-requires-clause-width c =
    let same = ap (λ (m : NodeValue). length m.lefts) c.in_ok-child.ensures.node in
    c.requires.question.weights ∙ sym (same ∙ length-our_child c.args.question.now.node.now c.args.believed.now.card c.requires.question.ours c.requires.card)

pub returns-in-Err-Spent-clause-spent : goal.returns-in-Err-Spent-clause-spent
returns-in-Err-Spent-clause-spent c =
    let q = c.args.question.now in
    let card = c.args.believed.now.card in
    let large : q.options.now.nodes < tree_size bridge c.in_ok-child.child (q.moves - 1) = first_of (search rules, grind (arith, common_steps)) in
    λ other is. ((let same : other ≡ card = cc in same), large_after q.node.now q.moves q.options.now.nodes c.in_ok-child.child card c.in_ok-child.ensures.node large)
