-- What a clause says of a table and of a pass.
use Rattle.std.specs.Prelude.{◌≡◌, ◌≢◌, ℕ, ◌+◌, ◌⊎◌, List, [], ◌∷◌, length}
use mathlib.Core.List.{IsPrefix}
use Rattle.atomic_table.specs.Seated.{TableId}
use Rattle.atomic_table.specs.declared.shared.Seat.{Seat}
use Rattle.trick_rules.specs.Nodes.{NodeValue}
use Rattle.front_table.specs.Proven.{ProvenFrontValue}
use Rattle.front_table.specs.declared.store.Put.{Put}
use Rattle.front_table.specs.declared.store.Put.TheVariants.{Kept, Present, Full, TooWide, Busy, Memory}
use Rattle.front_table.specs.declared.store.Look.{Look}
use Rattle.front_table.specs.declared.store.Look.TheVariants as look
use Rattle.front_table.specs.Entries.{StoredFrontValue, HasKey, IsTooWide, PutLeaves}
use Rattle.shared_table.specs.declared.SharedTable.{SharedTable}
use Rattle.shared_table.specs.declared.Pass.{Pass}
use Rattle.shared_table.specs.declared.rule.TablePlan.{TablePlan}
use Rattle.shared_table.specs.declared.rule.TableView.{TableView}
use Rattle.shared_table.specs.Keys.{shard_of}
use Rattle.shared_table.specs.Shard.{IsShard}
use Rattle.shared_table.specs.Shards.{seen_at, IsOut, held}

-- the seat is at this table, under this plan
pub record IsSeatAt (id : TableId) (plan : TablePlan) (s : Seat (List StoredFrontValue) TableView) : Type 0 where
  pub table : s.table_id ≡ id
  pub plan_is : s.me.0.plan ≡ plan
  pub all : length s.me.0.shards ≡ plan.shards

-- and it is inside no shard
pub record IsOutAt (id : TableId) (plan : TablePlan) (s : Seat (List StoredFrontValue) TableView) : Type 0 where
  pub seat : IsSeatAt id plan s
  pub out : IsOut s.me.0
  pub empty : s.me.1 ≡ []

-- which table it is
abbrev pub table_id_of : SharedTable → TableId
table_id_of t = t.table.shared.table_id

-- how many shards the table has, and how many entries each may have
abbrev pub table_plan : SharedTable → TablePlan
table_plan t = t.plan

-- the pass is of this table
abbrev pub IsPassOf : SharedTable → Pass → Type 0
IsPassOf t p = IsOutAt (table_id_of t) (table_plan t) p.seat

-- what the pass knows
abbrev pub view_of : Pass → TableView
view_of p = p.seat.me.0

-- the list of the shard i that the pass has seen, how often it got that shard's turn, and how often it found the turn taken
abbrev pub list_at : ℕ → TableView → List StoredFrontValue
list_at i v = (seen_at i v).list

abbrev pub got_at : ℕ → TableView → ℕ
got_at i v = (seen_at i v).got

abbrev pub busy_at : ℕ → TableView → ℕ
busy_at i v = (seen_at i v).busy

-- the pass has seen nothing and counted nothing
abbrev pub IsNew : TableView → Type 0
IsNew v = (i : ℕ) → (list_at i v ≡ []) × (got_at i v ≡ 0) × (busy_at i v ≡ 0)

-- what is known of the other shards stays
abbrev pub OthersStay : ℕ → TableView → TableView → Type 0
OthersStay i v w = (k : ℕ) → k ≢ i → seen_at k w ≡ seen_at k v

-- the pass got the turn of the shard i once, and has now seen its list, of which it had seen the beginning
pub record GotTurn (plan : TablePlan) (i : ℕ) (v w : TableView) : Type 0 where
  pub begins : IsPrefix (list_at i v) (list_at i w)
  pub good : IsShard plan i (list_at i w)
  pub got : got_at i w ≡ got_at i v + 1
  pub busy : busy_at i w ≡ busy_at i v
  pub others : OthersStay i v w

-- the pass found the turn of the shard i taken, once
pub record FoundTaken (i : ℕ) (v w : TableView) : Type 0 where
  pub list : list_at i w ≡ list_at i v
  pub got : got_at i w ≡ got_at i v
  pub busy : busy_at i w ≡ busy_at i v + 1
  pub others : OthersStay i v w

-- what a look into the shard i tells
abbrev pub LookTells : TablePlan → NodeValue → ℕ → TableView → TableView → Look → Type 0
LookTells plan n moves v w look.Hit = let i = shard_of plan.shards n moves in GotTurn plan i v w × HasKey (list_at i w) n moves
LookTells plan n moves v w look.Miss = let i = shard_of plan.shards n moves in GotTurn plan i v w × (¬ HasKey (list_at i w) n moves)
LookTells plan n moves v w look.Busy = FoundTaken (shard_of plan.shards n moves) v w

-- the list of the shard i was some list that begins with what the pass had seen, and what became of it by this put is what the pass has seen now
abbrev pub PutInto : TablePlan → ℕ → ProvenFrontValue → TableView → TableView → Put → Type 0
PutInto plan i p v w answer = GotTurn plan i v w × ((list : List StoredFrontValue) × IsPrefix (list_at i v) list × PutLeaves plan.room list p answer (list_at i w))

-- what a put tells: a front that is too wide makes no step
abbrev pub PutTells : TablePlan → ProvenFrontValue → TableView → TableView → Put → Type 0
PutTells plan p v w (TooWide back) = IsTooWide p × (w ≡ v)
PutTells plan p v w (Busy back) = (¬ IsTooWide p) × FoundTaken (shard_of plan.shards p.node p.moves) v w
PutTells plan p v w Kept = PutInto plan (shard_of plan.shards p.node p.moves) p v w Kept
PutTells plan p v w (Present back) = PutInto plan (shard_of plan.shards p.node p.moves) p v w (Present back)
PutTells plan p v w (Full back) = PutInto plan (shard_of plan.shards p.node p.moves) p v w (Full back)
PutTells plan p v w (Memory back) = PutInto plan (shard_of plan.shards p.node p.moves) p v w (Memory back)

-- two passes that part: the one knows what it knew, and the new one has seen the same and counted nothing
pub record HasParted (v w new : TableView) : Type 0 where
  pub same : w ≡ v
  pub lists : (i : ℕ) → list_at i new ≡ list_at i v
  pub counts : (i : ℕ) → (got_at i new ≡ 0) × (busy_at i new ≡ 0)

-- two passes that join have seen what both have, and counted what both did
pub record HasJoined (v other w : TableView) : Type 0 where
  pub first : (i : ℕ) → IsPrefix (list_at i v) (list_at i w)
  pub second : (i : ℕ) → IsPrefix (list_at i other) (list_at i w)
  pub one_of : (i : ℕ) → (list_at i w ≡ list_at i v) ⊎ (list_at i w ≡ list_at i other)
  pub got : (i : ℕ) → got_at i w ≡ got_at i v + got_at i other
  pub busy : (i : ℕ) → busy_at i w ≡ busy_at i v + busy_at i other

-- a seat holds the shard i, and no other
abbrev pub Holds : ℕ → List (ℕ × List StoredFrontValue) → Type 0
Holds i carried = carried ≡ (i, held carried) ∷ []
