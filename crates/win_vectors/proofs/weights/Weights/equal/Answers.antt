use Rattle.std.proofs.Common.{arith}
use Rattle.std.proofs.lemmas.List.{take-replicate}
use Rattle.std.proofs.lemmas.List.Elements.{All-replicate}
use Rattle.win_vectors.specs.Weights.{IsWeight}
use Rattle.win_vectors.proofs.weights.Weights.equal.Goals as goal

pub invariant_of-result : goal.invariant_of-result
invariant_of-result c = record {
  low = c.requires.low;
  high = c.requires.high;
  each = All-replicate IsWeight 256 1 (record { low = omega arith; high = omega arith });
}

pub returns : goal.returns
returns c = take-replicate c.args.width 256 1 c.requires.high
