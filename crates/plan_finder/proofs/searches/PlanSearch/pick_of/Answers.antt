use Rattle.plan_finder.proofs.PartsAbove.{picked_above, none_above}
use Rattle.plan_finder.proofs.searches.PlanSearch.pick_of.Goals as goal

pub returns-clause-picked : goal.returns-clause-picked
returns-clause-picked g c = picked_above c.args.vector.now c.args.node.now c.args.moves c.in_ok-front.front c.in_ok-front.ensures.above c.pick.result c.pick.ensures.first

pub returns-clause-none : goal.returns-clause-none
returns-clause-none g c = none_above c.args.vector.now c.args.node.now c.args.moves c.in_ok-front.front c.in_ok-front.ensures.above c.pick.result c.pick.ensures.found
