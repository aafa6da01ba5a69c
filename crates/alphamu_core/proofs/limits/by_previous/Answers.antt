use Rattle.std.proofs.Common.{◌-◌}
use Rattle.alphamu_core.proofs.Bounds.{below_previous, upper_previous}
use Rattle.alphamu_core.proofs.Unions.{union_results}
use Rattle.alphamu_core.proofs.limits.by_previous.Goals as goal

pub returns-then-cut : goal.returns-then-cut
returns-then-cut c = λ rules cuts. (
  below_previous c.args.question.now.node.now c.requires.a_node c.args.moves c.args.previous.vectors c.args.question.now.alpha.now.vectors c.requires.goes_on c.requires.previous.front (c.cut.ensures.0 c.if-cut.true),
  cuts,
)

pub by_results-requires-clause-results : goal.by_results-requires-clause-results
by_results-requires-clause-results c =
    union_results c.args.question.now.node.now c.requires.a_node (c.args.moves - 1) c.args.previous.vectors c.requires.previous.front c.args.previous.width c.union_of-made.result c.requires.previous.width c.union_of-made.ensures

pub by_results-requires-clause-upper : goal.by_results-requires-clause-upper
by_results-requires-clause-upper c = upper_previous c.args.question.now.node.now c.args.moves c.args.previous c.requires.goes_on c.requires.previous

pub returns : goal.returns
returns c = λ rules cuts. c.by_results.ensures c.args.question.now.alpha.now.vectors rules cuts
