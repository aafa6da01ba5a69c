use Rattle.std.proofs.Common.{take}
use Rattle.alphamu_core.specs.Limits.{IsUnionOf}
use Rattle.alphamu_core.proofs.limits.union_of.Given as goal

abbrev pub invariant-loop-place : goal.invariant-loop-place
invariant-loop-place l = IsUnionOf l.front.width (take l.place l.front.vectors) l.union
