use Rattle.std.proofs.Common.{Option, is_some, ap}
use Rattle.win_vectors.specs.Fronts.{Vector}
use Rattle.alphamu_core.proofs.Bounds.{below_results, front_results, upper_results, bounds}
use Rattle.alphamu_core.proofs.limits.by_double_dummy.Goals as goal

pub returns-in_default : goal.returns-in_default
returns-in_default c =
    let cut = c.results.ensures.cut (ap (λ (o : Option Vector). is_some o) c.in_default.is) in (
      below_results c.args.question.now.node.now c.results.ensures.a_node c.args.moves c.args.question.now.alpha.now.vectors cut.1,
      bounds c.args.question.now.rules c.requires.bound,
    )

pub by_results-requires-clause-upper : goal.by_results-requires-clause-upper
by_results-requires-clause-upper c =
    upper_results c.args.question.now.node.now c.args.moves c.in_ok-upper.upper c.requires.goes_on (front_results c.args.question.now.node.now c.in_ok-upper.upper c.in-Some.made c.in-Some.ensures.results c.in_ok-upper.ensures.vectors c.in_ok-upper.ensures.width)

pub returns : goal.returns
returns c = c.by_results.ensures c.args.question.now.alpha.now.vectors c.args.question.now.rules (bounds c.args.question.now.rules c.requires.bound)
