use Rattle.std.proofs.Common.{Err, ap, refl, arith, ◌∙◌}
use Rattle.strategy_tree.proofs.BridgeLaws.{sizes}
use Rattle.root_workers.proofs.searches.double_dummy.Goals as goal

pub unreachable-requires : goal.unreachable-requires
unreachable-requires g c =
    let large = c.exact_front.ensures.spent (c.in-Err-Spent.is ∙ ap Err c.in-Err-Spent.field-0-is) in
    let one = sizes.at_stop c.args.node.now 0 refl in
    omega (arith, large, one)
