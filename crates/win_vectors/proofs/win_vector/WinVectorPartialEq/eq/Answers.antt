use Rattle.std.proofs.Math.Bool.{beq}
use Rattle.std.proofs.lemmas.Bool.Decides.{same_from_decides}
use Rattle.std.specs.Cmp.Lexicographic.{pointwise}
use Rattle.win_vectors.proofs.win_vector.WinVectorPartialEq.eq.Goals as goal
use Rattle.win_vectors.proofs.VectorLemmas.{Decides-same}

pub returns : goal.returns
returns c =
    same_from_decides c.equals.result (pointwise beq c.args.self.now c.args.other.now) c.equals.ensures (Decides-same c.args.self.now c.args.other.now)
