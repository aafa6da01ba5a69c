use Rattle.std.proofs.Common.{◌≡◌, max, arith, rules}
use Rattle.win_vectors.specs.Weights.{weight_of}
use Rattle.am_report.proofs.Grown.{greatest_more, wide_entry}
use Rattle.am_report.proofs.fusion.greatest_of.Goals as goal

pub total-requires : goal.total-requires
total-requires c = wide_entry (λ e. e.vector) c.args.weights.now c.args.table.now c.loop-entry.entry-index c.entry-item.result c.loop-entry-test.true c.entry-item.is c.requires

pub loop-entry-preserved : goal.loop-entry-preserved
loop-entry-preserved c =
    let weighed : c.total.result ≡ weight_of c.args.weights.now c.entry-item.result.vector = search rules in
    let greater : c.max-greatest.result ≡ max c.loop-entry.greatest (weight_of c.args.weights.now c.entry-item.result.vector) = first_of (search rules, omega (arith, weighed)) in
    greatest_more c.args.weights.now c.args.table.now c.loop-entry.entry-index c.loop-entry.greatest c.max-greatest.result c.entry-item.result c.loop-entry-test.true c.entry-item.is c.loop-entry.invariant greater
