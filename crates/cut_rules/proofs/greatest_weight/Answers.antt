use Rattle.cut_rules.proofs.GreatestWeights.{greatest_more}
use Rattle.cut_rules.proofs.greatest_weight.Goals as goal

pub loop-place-preserved : goal.loop-place-preserved
loop-place-preserved c =
    greatest_more c.args.weights.now c.args.front.now.vectors c.loop-place.place c.get.result c.loop-place.greatest c.total.result c.greater.result
    c.get.ensures c.total.ensures.value c.loop-place.invariant c.greater.ensures.none c.greater.ensures.some c.greater.ensures.most c.greater.ensures.weight
