use Rattle.std.proofs.Common.{refl}
use Rattle.alphamu_core.proofs.Bounds.{below_results, front_stopped, bounds}
use Rattle.alphamu_core.proofs.results.Question.leaf.Goals as goal

pub returns-in_ok-single-in-Some : goal.returns-in_ok-single-in-Some
returns-in_ok-single-in-Some c =
    front_stopped c.args.self.now.node.now c.in_ok-single-in-Some.field-0 c.args.moves c.in-Some.made c.requires.stopped c.in-Some.ensures.results c.in_ok-single-in-Some.ensures.vectors c.in_ok-single-in-Some.ensures.width

pub returns-in-None : goal.returns-in-None
returns-in-None c =
    let cut = c.in-None.ensures.cut refl in
    (below_results c.args.self.now.node.now c.results.ensures.a_node c.args.moves c.args.self.now.alpha.now.vectors cut.1, bounds c.args.self.now.rules cut.0)
