use Rattle.std.proofs.Common.{◌≤◌, ◌+◌, ◌*◌, map, take, drop}
use Rattle.strategy_tree.specs.PlanMeaning.{plan_of}
use Rattle.strategy_tree.specs.PlanText.{levels_of}
use Rattle.told_plans.specs.ToldMeaning.{telling_of, group_of}
use Rattle.told_plans.proofs.Telling.{most_levels, ToldSoFar}
use Rattle.told_plans.proofs.told.+tell.Given as goal

abbrev pub decreases-tell : goal.decreases-tell
decreases-tell l = 2 * levels_of (plan_of l.plan.now)

abbrev pub decreases-tell_each : goal.decreases-tell_each
decreases-tell_each l = 2 * most_levels (map group_of l.groups.now) + 1

abbrev pub invariant-tell_each-loop-group : goal.invariant-tell_each-loop-group
invariant-tell_each-loop-group l = record {
  told : ToldSoFar (map telling_of l.branches.items) (map group_of (take l.group-index l.groups));
  fewer : most_levels (map group_of (drop l.group-index l.groups)) ≤ most_levels (map group_of l.groups);
}
