use Rattle.alphamu_core.proofs.Bounds.{single}
use Rattle.alphamu_core.proofs.limits.single.Goals as goal

pub returns-clause-vectors : goal.returns-clause-vectors
returns-clause-vectors c = single c.args.vector c.new-front.result.vectors c.insert.new.self.vectors c.new-front.ensures.empty c.in_ok-insert.ensures.ok
