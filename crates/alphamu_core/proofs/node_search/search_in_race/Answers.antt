use Rattle.std.proofs.Common.{sym, subst}
use Rattle.trick_rules.specs.Nodes.{IsNode}
use Rattle.alphamu_core.proofs.Answered.{answer_exact}
use Rattle.alphamu_core.proofs.node_search.search_in_race.Goals as goal

pub returns-clause-never : goal.returns-clause-never
returns-clause-never g c = λ no_cut.
    let sound = subst (λ n. IsNode n) (sym c.in_ok-node.ensures) c.new.ensures.a_node in
    answer_exact c.in_ok-node.node c.args.moves c.args.alpha.now.vectors c.args.rules sound c.visit.result no_cut c.visit.ensures.answer
