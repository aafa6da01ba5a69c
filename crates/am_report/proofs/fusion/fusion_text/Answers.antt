use Rattle.am_report.proofs.Grown.{wide_entry}
use Rattle.am_report.proofs.fusion.fusion_text.Goals as goal

pub push_judged_line-requires : goal.push_judged_line-requires
push_judged_line-requires c = wide_entry (λ e. e.vector) c.args.weights.now c.args.table.now c.loop-entry.entry-index c.entry-item.result c.loop-entry-test.true c.entry-item.is c.requires
