-- How large a told plan is.
use Rattle.std.proofs.Common.{ℕ, ◌+◌, ◌*◌}
use Rattle.told_plans.specs.Told.{Told, Branches, ToldStop, ToldPlay, ToldHear, NoBranch, Branch}

abbrev mutual
  pub size : Told → ℕ
  size ToldStop = 1
  size (ToldPlay card rest) = 1 + size rest
  size (ToldHear branches) = 1 + sizes branches

  pub sizes : Branches → ℕ
  sizes NoBranch = 0
  sizes (Branch cards told later) = 1 + size told + sizes later

-- what is yet to write of a plan: its size, and for the same size this many calls
abbrev pub plan_left : Told → ℕ → ℕ
plan_left told calls = 4 * size told + calls

-- the same of branches
abbrev pub branches_left : Branches → ℕ → ℕ
branches_left branches calls = 4 * sizes branches + calls
