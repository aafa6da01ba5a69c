use Rattle.std.proofs.lemmas.Grind.{common_steps}
use Rattle.std.proofs.lemmas.List.{length_push}
use Rattle.std.proofs.Common.{[], ◌∷◌, ◌++◌, length, ◌≡◌, ap, ◌∙◌, le_refl, arith}
use Rattle.shared_table.specs.declared.close.ShardEnd.{ShardEnd}
use Rattle.shared_table.specs.Passes.{table_plan, view_of}
use Rattle.shared_table.proofs.Closing.{ends_more}
use Rattle.shared_table.proofs.SharedTable.close.Goals as goal

pub loop-shard-preserved : goal.loop-shard-preserved
loop-shard-preserved c =
    let i = c.loop-shard.invariant in
    let shard = c.loop-shard.shard in
    let ends = c.loop-shard.shards.items in
    let end = c.take_list-end.result in
    let told = c.take_list-end.ensures in
    let more : c.push.new.self.items ≡ ends ++ end ∷ [] = grind (arith, common_steps) in record {
      seat = told.seat;
      size = let long = length_push ends end in let size = i.size in ap (length {A = ShardEnd}) more ∙ omega arith;
      room = let before = i.room in let grown = c.push.ensures.capacity in omega arith;
      rest = λ k above. told.others k (λ e. omega arith) ∙ i.rest k (omega arith);
      ends = ends_more (table_plan c.args.self) (view_of c.args.pass.now) (view_of c.loop-shard.pass) c.take_list-end.new.seat.me.0 ends c.push.new.self.items end shard i.size more i.ends (i.rest shard (le_refl shard)) told.end told.others;
    }
