use Rattle.std.proofs.Common.{◌≡◌, max, arith, rules}
use Rattle.page_text.proofs.Grown.{greatest_more}
use Rattle.page_text.proofs.beliefs.most_believed.Goals as goal

pub loop-belief-preserved : goal.loop-belief-preserved
loop-belief-preserved c =
    let greater : c.max-most.result ≡ max c.loop-belief.most c.belief-item.result.weight = first_of (search rules, omega arith) in
    greatest_more (λ belief. belief.weight) c.args.beliefs.now c.loop-belief.belief-index c.belief-item.result c.loop-belief.most c.max-most.result c.loop-belief-test.true c.belief-item.is c.loop-belief.invariant greater
