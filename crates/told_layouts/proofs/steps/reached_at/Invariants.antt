use Rattle.std.proofs.Common.{◌≡◌, true}
use Rattle.strategy_tree.specs.PlanMeaning.{plan_of}
use Rattle.double_dummy.proofs.LayoutResults.{results_upto}
use Rattle.told_layouts.specs.Looking.{somewhere}
use Rattle.told_layouts.proofs.steps.reached_at.Given as goal

abbrev pub invariant-loop-place : goal.invariant-loop-place
invariant-loop-place l =
    l.reached ≡ results_upto (λ left. somewhere (λ rest place. true) l.sets (plan_of l.plan) (record { position = l.node.position; left = left })) l.node.lefts l.place
