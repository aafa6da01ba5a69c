use Rattle.std.proofs.Common.{rules}
use Rattle.alphamu_core.proofs.StoreKeys.{front_from_key}
use Rattle.alphamu_core.proofs.scratch.Scratch.known.Goals as goal

pub returns-in_ok-copy-in-Hit-clause-front : goal.returns-in_ok-copy-in-Hit-clause-front
returns-in_ok-copy-in-Hit-clause-front g c = front_from_key c.args.node.now c.args.key.now c.args.moves c.in_ok-copy-in-Hit.field-0 c.requires (search rules)
