use Rattle.std.proofs.Common.{◌≡◌, ◌∙◌, max, arith, rules, ap}
use Rattle.page_text.specs.Verdicts.{weight_from}
use Rattle.page_text.proofs.Grown.{greatest_more}
use Rattle.page_text.proofs.verdict.best_from.Goals as goal

pub loop-line-preserved : goal.loop-line-preserved
loop-line-preserved c =
    let greater : c.max-best.result ≡ max c.loop-line.best c.weight_from.result = first_of (search rules, omega arith) in
    greatest_more (weight_from c.args.card) c.args.lines.now c.loop-line.line-index c.line-item.result c.loop-line.best c.max-best.result c.loop-line-test.true c.line-item.is c.loop-line.invariant
    (greater ∙ ap (max c.loop-line.best) c.weight_from.ensures)
