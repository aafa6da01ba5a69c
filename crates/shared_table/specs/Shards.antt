-- The rule of the table, which is said of one shard at a time, and what each step tells.
use Rattle.std.specs.Prelude.{◌≡◌, ◌≢◌, ℕ, ◌+◌, ◌<◌, ltb, cond, Bool, true, false, List, [], ◌∷◌, map, replicate, length, slice_index, slice_index_or, slice_set}
use mathlib.Core.List.{IsPrefix}
use lib.ListN.{get_elem?}
use Rattle.atomic_table.specs.Table.{State, Me, Step, rest}
use Rattle.front_table.specs.Entries.{StoredFrontValue}
use Rattle.shared_table.specs.declared.rule.TablePlan.{TablePlan}
use Rattle.shared_table.specs.declared.rule.SeenShard.{SeenShard}
use Rattle.shared_table.specs.declared.rule.TableView.{TableView}
use Rattle.shared_table.specs.Shard.{IsShard, IsOneShard}

-- what a pass knows of a shard that no other pass has joined to it
abbrev pub seen : List StoredFrontValue → Bool → ℕ → ℕ → SeenShard
seen list inside got busy = record { list = list; also = []; inside = inside; got = got; busy = busy }

abbrev pub unseen : SeenShard
unseen = seen [] false 0 0

-- what a pass knows of the shard i
abbrev pub seen_at : ℕ → TableView → SeenShard
seen_at i v = slice_index_or v.shards i unseen

abbrev pub Table : Type 0
Table = State (List StoredFrontValue) TableView

-- The rule: each shard keeps the rule of one shard
pub record IsSharded (plan : TablePlan) (s : Table) : Type 0 where
  pub words : length s.words ≡ plan.shards
  pub slots : length s.homes ≡ plan.shards
  pub each : (i : ℕ) → i < plan.shards → IsOneShard plan i (slice_index s.words i) (get_elem? s.homes i) (map (seen_at i) s.views)

abbrev pub view : TablePlan → List SeenShard → TableView
view plan shards = record { plan = plan; shards = shards }

abbrev pub first_view : TablePlan → TableView
first_view plan = view plan (replicate plan.shards unseen)

-- the view with another shard i
abbrev pub with_shard : ℕ → SeenShard → TableView → TableView
with_shard i s v = view v.plan (slice_set v.shards i s)

-- after a take that succeeded, a take that failed, and a give
abbrev pub taken : ℕ → List StoredFrontValue → TableView → TableView
taken i list v = with_shard i (seen list true ((seen_at i v).got + 1) (seen_at i v).busy) v

abbrev pub refused : ℕ → TableView → TableView
refused i v = with_shard i (seen (seen_at i v).list (seen_at i v).inside (seen_at i v).got ((seen_at i v).busy + 1)) v

abbrev pub given : ℕ → List StoredFrontValue → TableView → TableView
given i list v = with_shard i (seen list false (seen_at i v).got (seen_at i v).busy) v

-- a new pass has seen what the one has of which it is split off, and has counted nothing
abbrev pub new_shard : SeenShard → SeenShard
new_shard s = seen s.list false 0 0

abbrev pub newcomer : TableView → TableView
newcomer v = view v.plan (map new_shard v.shards)

-- two passes that join: the first keeps both lists until its next step
abbrev pub paired : SeenShard → SeenShard → SeenShard
paired a b = record { list = a.list; also = b.list; inside = a.inside; got = a.got + b.got; busy = a.busy + b.busy }

abbrev pub paired_each : List SeenShard → List SeenShard → List SeenShard
paired_each [] more = []
paired_each (a ∷ rest) [] = a ∷ rest
paired_each (a ∷ rest) (b ∷ more) = paired a b ∷ paired_each rest more

abbrev pub both : TableView → TableView → TableView
both v w = view v.plan (paired_each v.shards w.shards)

-- the longer of two lists
abbrev pub longer : List StoredFrontValue → List StoredFrontValue → List StoredFrontValue
longer xs ys = cond (ltb (length xs) (length ys)) ys xs

-- of the two lists of a pass the longer one stays
abbrev pub settled : SeenShard → SeenShard
settled a = seen (longer a.list a.also) a.inside a.got a.busy

abbrev pub settled_view : TableView → TableView
settled_view v = view v.plan (map settled v.shards)

-- what is left of a pass that joined another
abbrev pub spent : TableView
spent = view (record { shards = 0; room = 0 }) []

abbrev pub Sat : Type 0
Sat = Me (List StoredFrontValue) TableView

-- the pass is inside the shard i, whose list it holds, of which it had seen the beginning
abbrev pub Lifts : ℕ → List StoredFrontValue → Sat → Sat → Type 0
Lifts i list m k = (k.1 ≡ (i, list) ∷ m.1) × (k.0 ≡ taken i list m.0) × IsPrefix (seen_at i m.0).list list × IsShard m.0.plan i list

abbrev pub took : Step (List StoredFrontValue) → Sat → ℕ → Sat → Type 0
took step m found k =
    (found ≡ 0 → (list : List StoredFrontValue) × Lifts step.word list m k)
    × (found ≢ 0 → (k.1 ≡ m.1) × (k.0 ≡ refused step.word m.0))

-- the list that the pass took last
abbrev pub held : List (ℕ × List StoredFrontValue) → List StoredFrontValue
held [] = []
held (x ∷ xs) = x.1

abbrev pub gave : Step (List StoredFrontValue) → Sat → Sat → Type 0
gave step m k = (k.1 ≡ rest m.1) × (k.0 ≡ given step.word (held m.1) m.0)

-- each of the two lists begins the one that stays
abbrev pub settles : Sat → Sat → Type 0
settles m k =
    (k.1 ≡ m.1) × (k.0 ≡ settled_view m.0)
    × ((i : ℕ) → i < m.0.plan.shards → IsPrefix (seen_at i m.0).list (settled (seen_at i m.0)).list × IsPrefix (seen_at i m.0).also (settled (seen_at i m.0)).list)

-- inside no shard, and nothing joined is left to settle
abbrev pub IsOut : TableView → Type 0
IsOut v = (i : ℕ) → ((seen_at i v).inside ≡ false) × ((seen_at i v).also ≡ [])
