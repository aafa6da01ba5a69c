use Rattle.std.proofs.Common.{◌≡◌, ◌&&◌}
use Rattle.std.specs.Prelude.{nat_eq}
use Rattle.std.specs.Cmp.Lexicographic.{pointwise}
use Rattle.trick_rules.specs.Play.{makes}
use Rattle.double_dummy.proofs.LayoutResults.{results_upto}
use Rattle.assured_fronts.proofs.ends.played_for.Given as goal

abbrev pub invariant-loop-other : goal.invariant-loop-other
invariant-loop-other l = l.won ≡ results_upto (λ left. pointwise nat_eq l.chosen left && makes (record { position = l.node.position; left = left })) l.node.lefts l.other
