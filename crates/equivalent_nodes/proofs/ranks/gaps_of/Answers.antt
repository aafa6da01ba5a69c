use Rattle.equivalent_nodes.proofs.Relative.{gaps_are}
use Rattle.equivalent_nodes.proofs.ranks.gaps_of.Goals as goal

pub returns : goal.returns
returns c = gaps_are c.args.position.now c.pack.result c.cards_in_play.result c.minus.result c.pack.ensures.value c.cards_in_play.ensures c.minus.ensures.value
