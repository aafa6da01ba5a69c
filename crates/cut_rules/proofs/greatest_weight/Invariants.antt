use Rattle.std.proofs.Common.{take}
use Rattle.cut_rules.specs.Stops.{IsGreatestOf}
use Rattle.cut_rules.proofs.greatest_weight.Given as goal

abbrev pub invariant-loop-place : goal.invariant-loop-place
invariant-loop-place l = IsGreatestOf l.weights (take l.place l.front.vectors) l.greatest
