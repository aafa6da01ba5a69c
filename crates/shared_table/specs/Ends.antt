-- What became of the shards of a table that is closed.
use Rattle.std.specs.Prelude.{◌≡◌, ◌+◌, ℕ, List, length}
use mathlib.Core.List.{IsPrefix}
use mathlib.Core.Option.{some}
use lib.ListN.{get_elem?}
use Rattle.shared_table.specs.declared.rule.TablePlan.{TablePlan}
use Rattle.shared_table.specs.declared.rule.TableView.{TableView}
use Rattle.shared_table.specs.declared.rule.SeenShard.{SeenShard}
use Rattle.shared_table.specs.declared.close.ShardEnd.{ShardEnd}
use Rattle.shared_table.specs.declared.close.ShardEnd.TheVariants.{Home, Held}
use Rattle.shared_table.specs.Shard.{IsShard}
use Rattle.shared_table.specs.Shards.{seen_at}

-- how the shard i ended, of which the pass knew v before and w afterwards: the pass got the turn once, and has now seen the
-- list, of which it had seen the beginning; or it found the turn taken, once
abbrev pub IsEndOf : TablePlan → ℕ → SeenShard → SeenShard → ShardEnd → Type 0
IsEndOf plan i v w (Home list) = (w.list ≡ list) × IsPrefix v.list list × IsShard plan i list × (w.got ≡ v.got + 1) × (w.busy ≡ v.busy)
IsEndOf plan i v w Held = (w.list ≡ v.list) × (w.got ≡ v.got) × (w.busy ≡ v.busy + 1)

-- how each shard ended
pub record AreEnds (plan : TablePlan) (v w : TableView) (ends : List ShardEnd) : Type 0 where
  pub all : length ends ≡ plan.shards
  pub each : (i : ℕ) (e : ShardEnd) → get_elem? ends i ≡ some e → IsEndOf plan i (seen_at i v) (seen_at i w) e
