use Rattle.strategy_games.specs.Plans.{tree_size}
use Rattle.strategy_tree.specs.Bridge.{bridge}
use Rattle.strategy_tree.proofs.BridgeNodes.{tree_size-positive}
use Rattle.alphamu_core.proofs.Paid.{costs_none}
use Rattle.assured_fronts.proofs.search.AssuredSearch.replies.Goals as goal

pub returns-in_err-enter-clause-costs : goal.returns-in_err-enter-clause-costs
returns-in_err-enter-clause-costs c =
    costs_none ⊥ (tree_size bridge c.args.node.now c.args.moves) c.args.self.now.budget.now.left c.enter.new.self.left c.from_residual.result c.in_err-enter.field-0.0 c.from_residual.ensures.1 (tree_size-positive c.args.node.now c.args.moves) c.in_err-enter.ensures.spent.0 c.in_err-enter.ensures.spent.1
