use Rattle.std.proofs.Common.{◌≡◌, max, arith, rules}
use Rattle.page_text.proofs.Grown.{greatest_more}
use Rattle.page_text.proofs.verdict.best_of.Goals as goal

pub loop-line-preserved : goal.loop-line-preserved
loop-line-preserved c =
    let greater : c.max-best.result ≡ max c.loop-line.best c.line-item.result.weight = first_of (search rules, omega arith) in
    greatest_more (λ line. line.weight) c.args.lines.now c.loop-line.line-index c.line-item.result c.loop-line.best c.max-best.result c.loop-line-test.true c.line-item.is c.loop-line.invariant greater
