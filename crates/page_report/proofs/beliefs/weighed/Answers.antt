use Rattle.am_report.proofs.Grown.{wide_entry}
use Rattle.page_report.proofs.beliefs.weighed.Goals as goal

pub belief_of-requires : goal.belief_of-requires
belief_of-requires c = wide_entry (λ judged. judged.vector) c.args.weights.now c.args.table.now c.loop-judged.judged-index c.judged-item.result c.loop-judged-test.true c.judged-item.is c.requires
