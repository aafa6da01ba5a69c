use Rattle.std.proofs.Common.{rules}
use Rattle.alphamu_core.proofs.StoreKeys.{front_from_key}
use Rattle.plan_finder.proofs.above.AboveSearch.known.Goals as goal

pub returns-in-Hit-clause-front : goal.returns-in-Hit-clause-front
returns-in-Hit-clause-front g c = front_from_key c.args.node.now c.in_ok-key.key c.args.moves c.look.new.out c.in_ok-key.ensures.equivalent (search rules)
