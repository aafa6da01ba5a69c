use Rattle.std.proofs.Common.{◌≡◌, take}
use Rattle.strategy_games.specs.Plans.{wins_vector}
use Rattle.strategy_tree.specs.Bridge.{bridge}
use Rattle.strategy_tree.specs.PlanMeaning.{plan_of}
use Rattle.strategy_check.proofs.verdict.check_by.Given as goal

abbrev pub invariant-loop-place : goal.invariant-loop-place
invariant-loop-place g l = take l.place (wins_vector bridge (plan_of l.plan) l.node) ≡ take l.place l.vector
