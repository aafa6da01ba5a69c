use Rattle.std.proofs.Common.{◌≡◌, length, rules}
use Rattle.am_report.proofs.Grown.{entry_more, wide_entry}
use Rattle.am_report.proofs.solve.push_entries.Goals as goal

pub loop-entry-preserved : goal.loop-entry-preserved
loop-entry-preserved c =
    entry_more c.args.weights.now c.args.text.now c.loop-entry.text c.push_vector_line.new.text c.lines.new.out c.args.entries.now c.loop-entry.entry-index c.entry-item.result c.loop-entry-test.true c.entry-item.is
    c.loop-entry.invariant (search rules) (search rules)

pub push_vector_line-requires : goal.push_vector_line-requires
push_vector_line-requires c =
    let wide : length c.args.weights.now ≡ length c.entry-item.result.vector = wide_entry (λ e. e.vector) c.args.weights.now c.args.entries.now c.loop-entry.entry-index c.entry-item.result c.loop-entry-test.true c.entry-item.is c.requires in
    search rules
