use Rattle.std.proofs.Common.{rules}
use Rattle.alphamu_core.proofs.StoreKeys.{front_to_key}
use Rattle.alphamu_core.proofs.offers.offer.Goals as goal

pub new-requires : goal.new-requires
new-requires g c = front_to_key c.args.node.now c.args.key c.args.moves c.in-Ok.copy c.requires.key (search rules)
