use Rattle.std.proofs.Common.{◌≡◌}
use Rattle.trick_rules.specs.Play.{makes}
use Rattle.double_dummy.proofs.LayoutResults.{results_upto}
use Rattle.assured_fronts.proofs.ends.judged.Given as goal

abbrev pub invariant-loop-place : goal.invariant-loop-place
invariant-loop-place l = l.made ≡ results_upto (λ left. makes (record { position = l.node.position; left = left })) l.node.lefts l.place
