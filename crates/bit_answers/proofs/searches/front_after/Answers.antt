use Rattle.std.proofs.Common.{rules, arith}
use Rattle.std.proofs.lemmas.Grind.{common_steps}
use Rattle.trick_rules.specs.Nodes.{choices}
use Rattle.strategy_tree.specs.RootTrees.{IsTooLarge}
use Rattle.strategy_tree.proofs.CardLists.{Contains-from_has_card}
use Rattle.bit_answers.proofs.searches.front_after.Goals as goal

pub returns-in-Err-Spent-clause-refused : goal.returns-in-Err-Spent-clause-refused
returns-in-Err-Spent-clause-refused c =
    let large : IsTooLarge c.args.asked.now.node c.args.asked.now.moves c.args.asked.now.nodes c.args.card = first_of (search rules, grind (arith, common_steps)) in
    (Contains-from_has_card (choices c.args.asked.now.node) c.args.card c.requires.card, large)
