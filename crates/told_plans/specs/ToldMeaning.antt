-- What a told plan in memory means.
use Rattle.std.specs.Prelude.{ℕ, List, [], ◌∷◌, map, box_value}
use Rattle.strategy_tree.specs.PlanMeaning.{plan_of}
use Rattle.told_plans.specs.Told as told
use Rattle.told_plans.specs.declared.grouping.Group.{Group}
use Rattle.told_plans.specs.declared.told.ToldPlan.{ToldPlan}
use Rattle.told_plans.specs.declared.told.Branch.{Branch}
use Rattle.told_plans.specs.declared.told.ToldPlan.TheOpen.{ToldPlan-F, Branch-F, Stop, Play, Hear}
use Rattle.told_plans.specs.declared.told.ToldPlan.TheFolds.{fold-ToldPlan}

-- some cards, and what is told of them
pub record Telling : Type 0 where
  pub cards : List ℕ
  pub plan : told.Told

abbrev pub branches_from : List Telling → told.Branches
branches_from [] = told.NoBranch
branches_from (t ∷ later) = told.Branch t.cards t.plan (branches_from later)

abbrev pub told_step : ToldPlan-F told.Told Telling → told.Told
told_step Stop = told.ToldStop
told_step (Play card rest) = told.ToldPlay card (box_value rest)
told_step (Hear branches) = told.ToldHear (branches_from branches.items)

abbrev pub branch_step : Branch-F told.Told Telling → Telling
branch_step b = record { cards = b.cards; plan = b.plan }

-- the told plan of one in memory
abbrev pub told_of : ToldPlan → told.Told
told_of = fold-ToldPlan told.Told Telling told_step branch_step

-- a branch in memory
abbrev pub telling_of : Branch → Telling
telling_of b = record { cards = b.cards; plan = told_of b.plan }

-- several branches in a row
abbrev pub branches_of : List Branch → told.Branches
branches_of branches = branches_from (map telling_of branches)

-- a group in memory
abbrev pub group_of : Group → told.Group
group_of g = record { cards = g.cards; plan = plan_of g.plan }
