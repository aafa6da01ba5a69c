use Rattle.std.proofs.Common.{◌≤◌}
use Rattle.front_table.specs.Entries.{most_entry_vectors}
use Rattle.bench_work.proofs.store.looks.look_over.Given as goal

abbrev pub invariant-loop : goal.invariant-loop
invariant-loop g l = most_entry_vectors ≤ l.out.room
