use Rattle.std.proofs.Common.{◌≡◌}
use Rattle.strategy_tree.specs.PlanMeaning.{plan_of}
use Rattle.double_dummy.proofs.LayoutResults.{results_upto}
use Rattle.told_layouts.specs.Looking.{somewhere, loses, gives_up, is_won}
use Rattle.told_layouts.proofs.steps.layouts_at.Given as goal

abbrev pub invariant-loop-place : goal.invariant-loop-place
invariant-loop-place l =
    let plan = plan_of l.plan in
    record {
      won : l.won ≡ results_upto (λ left. is_won l.sets plan (record { position = l.node.position; left = left })) l.node.lefts l.place;
      lost : l.lost ≡ results_upto (λ left. somewhere loses l.sets plan (record { position = l.node.position; left = left })) l.node.lefts l.place;
      given_up : l.given_up ≡ results_upto (λ left. somewhere gives_up l.sets plan (record { position = l.node.position; left = left })) l.node.lefts l.place;
    }
