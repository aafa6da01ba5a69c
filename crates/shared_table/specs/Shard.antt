-- The rule of one shard: of its turn word, its slot, and what each pass knows of it.
use Rattle.std.specs.Prelude.{◌≡◌, ◌≢◌, ℕ, ◌≤◌, ◌⊎◌, true, false, List, length, Contains}
use mathlib.Core.Option.{Option, some}
use mathlib.Core.List.{IsPrefix}
use lib.ListN.{get_elem?}
use Rattle.front_table.specs.Entries.{StoredFrontValue, HasKeysOnce}
use Rattle.shared_table.specs.declared.rule.TablePlan.{TablePlan}
use Rattle.shared_table.specs.declared.rule.SeenShard.{SeenShard}
use Rattle.shared_table.specs.Keys.{shard_of}

-- the list of the shard i: each key stands there once and belongs to the shard, and there are no more entries than there is room for
pub record IsShard (plan : TablePlan) (i : ℕ) (list : List StoredFrontValue) : Type 0 where
  pub fits : length list ≤ plan.room
  pub here : (e : StoredFrontValue) → Contains list e → shard_of plan.shards e.node e.moves ≡ i
  pub once : HasKeysOnce list

-- the pass is outside, and the shard's list begins with what it has seen
abbrev pub IsOutside : List StoredFrontValue → SeenShard → Type 0
IsOutside list v = (v.inside ≡ false) × IsPrefix v.list list × IsPrefix v.also list

-- nobody is inside, and the list is home in its slot
pub record IsFree (plan : TablePlan) (i : ℕ) (home : Option (Option (List StoredFrontValue))) (views : List SeenShard) : Type 0 where
  pub list : List StoredFrontValue
  pub home_is : home ≡ some (some list)
  pub good : IsShard plan i list
  pub each : (j : ℕ) (v : SeenShard) → get_elem? views j ≡ some v → IsOutside list v

-- one pass is inside, and the others have seen no more than it
pub record IsTaken (plan : TablePlan) (i : ℕ) (views : List SeenShard) : Type 0 where
  pub by : ℕ
  pub holder : SeenShard
  pub at : get_elem? views by ≡ some holder
  pub inside : holder.inside ≡ true
  pub good : IsShard plan i holder.list
  pub others : (j : ℕ) (v : SeenShard) → j ≢ by → get_elem? views j ≡ some v → IsOutside holder.list v

-- at 0 the shard is free, at 1 it is taken, and its word is never another number
abbrev pub IsOneShard : TablePlan → ℕ → ℕ → Option (Option (List StoredFrontValue)) → List SeenShard → Type 0
IsOneShard plan i word home views = ((word ≡ 0) × IsFree plan i home views) ⊎ ((word ≡ 1) × IsTaken plan i views)
