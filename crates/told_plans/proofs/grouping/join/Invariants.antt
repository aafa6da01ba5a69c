use Rattle.std.proofs.Common.{◌≡◌, ◌++◌, List, map, take, drop}
use Rattle.strategy_tree.specs.PlanMeaning.{plan_of}
use Rattle.told_plans.specs.Told.{Group, HasJoined}
use Rattle.told_plans.specs.ToldMeaning.{group_of}
use Rattle.told_plans.proofs.grouping.join.Given as goal

-- the groups so far are passed: what joins those left joins all
abbrev pub invariant-loop-place : goal.invariant-loop-place
invariant-loop-place l = record {
  same : l.groups.items ≡ l.initial.groups.items;
  passed : (after : List Group) → HasJoined l.card (plan_of l.plan) (map group_of (drop l.place l.groups.items)) after
      → HasJoined l.card (plan_of l.plan) (map group_of l.groups.items) (map group_of (take l.place l.groups.items) ++ after);
}
