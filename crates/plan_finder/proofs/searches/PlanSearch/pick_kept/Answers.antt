use Rattle.plan_finder.proofs.DoubleDummy.{made_pick}
use Rattle.plan_finder.proofs.searches.PlanSearch.pick_kept.Goals as goal

pub pick_unless_known-requires-clause-known : goal.pick_unless_known-requires-clause-known
pick_unless_known-requires-clause-known g c = λ known.
    made_pick c.args.node.now c.args.moves c.args.vector.now c.requires.a_node c.requires.kept (c.wins_all_made_by-known.ensures known)
