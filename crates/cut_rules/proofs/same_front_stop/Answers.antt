use Rattle.strategy_tree.proofs.BridgeLaws.{cuts}
use Rattle.cut_rules.proofs.same_front_stop.Goals as goal

pub returns-clause-enough : goal.returns-clause-enough
returns-clause-enough c = λ yes n moves cards our won front.
    cuts.same_front n moves cards c.args.union.now.vectors c.args.less.now.vectors our.a_node our.goes_on our.ours our.choices won front (c.cut.ensures.0 yes)
