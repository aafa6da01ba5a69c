use Rattle.std.proofs.Common.{◌≡◌, length, rules}
use Rattle.win_vectors.specs.Vectors.{ones_of}
use Rattle.alphamu_core.proofs.Inherited.{known_whole}
use Rattle.assured_fronts.proofs.replies.is_all_made.Goals as goal

pub returns : goal.returns
returns c is =
    let all : ones_of c.results.result ≡ length c.args.node.now.lefts = search rules in
    known_whole c.args.node.now c.results.result c.results.ensures all
