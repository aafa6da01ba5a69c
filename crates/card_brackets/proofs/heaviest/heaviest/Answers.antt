use Rattle.card_brackets.proofs.HeavyVectors.{least_heavy}
use Rattle.card_brackets.proofs.heaviest.heaviest.Goals as goal

pub returns : goal.returns
returns c =
    least_heavy c.args.node.now c.args.moves c.args.weights.now c.in_ok-quick.quick c.total-floor.result c.in_ok-kept.kept.vectors c.greatest_weight.result c.at_least.result
    c.in_ok-quick.ensures.assured c.total-floor.ensures.value c.in_ok-kept.ensures.heavy c.greatest_weight.ensures c.at_least.ensures.more c.at_least.ensures.less c.at_least.ensures.none
