use Rattle.std.proofs.Common.{◌≢◌, Option, IfSome, subst}
use Rattle.pareto_fronts.specs.FrontValue.{FrontValue}
use Rattle.cut_rules.specs.Rules.{no_cuts}
use Rattle.alphamu_core.proofs.tree_search.TreeSearch.limit.Goals as goal

pub returns-in-Some-2-clause-limit : goal.returns-in-Some-2-clause-limit
returns-in-Some-2-clause-limit g c =
    c.by_previous.ensures c.args.self.now.rules
    (subst (λ (o : Option FrontValue). IfSome o (λ _. c.args.self.now.rules ≢ no_cuts)) c.in-Some-2.is c.in_ok-previous.ensures.deepens)
