use Rattle.std.proofs.Common.{◌≡◌, ℕ, ◌≤◌, length}
use Rattle.std.specs.Prelude.{vec_capacity}
use mathlib.Core.Option.{some}
use lib.ListN.{get_elem?}
use Rattle.shared_table.specs.declared.close.ShardEnd.{ShardEnd}
use Rattle.shared_table.specs.Shards.{seen_at}
use Rattle.shared_table.specs.Passes.{IsSeatAt, table_id_of, table_plan, view_of}
use Rattle.shared_table.specs.Ends.{IsEndOf}
use Rattle.shared_table.proofs.SharedTable.close.Given as goal

abbrev pub invariant-loop-shard : goal.invariant-loop-shard
invariant-loop-shard l = record {
  seat : IsSeatAt (table_id_of l.self) (table_plan l.self) l.pass.seat;
  size : length l.shards.items ≡ l.shard;
  room : l.count ≤ vec_capacity l.shards;
  rest : (k : ℕ) → l.shard ≤ k → seen_at k (view_of l.pass) ≡ seen_at k (view_of l.initial.pass);
  ends : (k : ℕ) (e : ShardEnd) → get_elem? l.shards.items k ≡ some e → IsEndOf (table_plan l.self) k (seen_at k (view_of l.initial.pass)) (seen_at k (view_of l.pass)) e;
}
