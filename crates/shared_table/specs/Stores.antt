-- How a table with a pass may change, as a store.
use Rattle.std.specs.Prelude.{◌≡◌, ℕ, ◌≤◌, [], ◌++◌}
use Rattle.std.proofs.Common.{refl, sym, ap, ◌∙◌, append_assoc, append-nil, le_refl, le_trans}
use mathlib.Core.List.{IsPrefix}
use Rattle.shared_table.specs.declared.rule.TableView.{TableView}
use Rattle.shared_table.specs.declared.store.SharedStore.{SharedStore}
use Rattle.shared_table.specs.Passes.{view_of, list_at, got_at, busy_at}

-- a pass has seen no less of the shard i, and counted no less
pub record HasGrownAt (i : ℕ) (v w : TableView) : Type 0 where
  pub list : IsPrefix (list_at i v) (list_at i w)
  pub got : got_at i v ≤ got_at i w
  pub busy : busy_at i v ≤ busy_at i w

-- the table is the same, and the pass is the same and of it, and has seen and counted no less of each shard
pub record HasGrown (early late : SharedStore) : Type 0 where
  pub table : late.table.now ≡ early.table.now
  pub pass : late.pass.ghost_name ≡ early.pass.ghost_name
  pub each : (i : ℕ) → HasGrownAt i (view_of early.pass.now) (view_of late.pass.now)

pub HasGrownAt-none : (i : ℕ) (v : TableView) → HasGrownAt i v v
HasGrownAt-none i v = record { list = ([], append-nil (list_at i v)); got = le_refl (got_at i v); busy = le_refl (busy_at i v) }

pub HasGrownAt-more : (i : ℕ) (u v w : TableView) → HasGrownAt i u v → HasGrownAt i v w → HasGrownAt i u w
HasGrownAt-more i u v w h k = record {
  list = (h.list.0 ++ k.list.0, sym (append_assoc (list_at i u) h.list.0 k.list.0) ∙ (ap (λ l. l ++ k.list.0) h.list.1 ∙ k.list.1));
  got = le_trans h.got k.got;
  busy = le_trans h.busy k.busy;
}

pub HasGrown-none : (store : SharedStore) → HasGrown store store
HasGrown-none store = record { table = refl; pass = refl; each = λ i. HasGrownAt-none i (view_of store.pass.now) }

pub HasGrown-more : (early middle late : SharedStore) → HasGrown early middle → HasGrown middle late → HasGrown early late
HasGrown-more early middle late h k = record {
  table = k.table ∙ h.table;
  pass = k.pass ∙ h.pass;
  each = λ i. HasGrownAt-more i (view_of early.pass.now) (view_of middle.pass.now) (view_of late.pass.now) (h.each i) (k.each i);
}
