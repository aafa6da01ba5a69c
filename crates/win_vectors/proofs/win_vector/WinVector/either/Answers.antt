use Rattle.win_vectors.proofs.Together.{either-words, either-bits}
use Rattle.win_vectors.proofs.win_vector.WinVector.either.Goals as goal

pub invariant_of-result : goal.invariant_of-result
invariant_of-result c = either-words c.self.inside.width c.other.inside.width c.self.inside.words c.other.inside.words c.args.self c.args.other c.self.view_is c.other.view_is c.requires c.self.invariant c.other.invariant

pub returns : goal.returns
returns c = either-bits c.self.inside.width c.other.inside.width c.self.inside.words c.other.inside.words c.args.self c.args.other c.self.view_is c.other.view_is c.requires c.self.invariant c.other.invariant
