use Rattle.std.proofs.Common.{◌≡◌}
use Rattle.fusion_base.proofs.Sampled.{made_upto}
use Rattle.fusion_base.proofs.table.vector_of.Given as goal

abbrev pub invariant-loop-place : goal.invariant-loop-place
invariant-loop-place l = l.vector ≡ made_upto l.node l.card l.place
