use Rattle.std.proofs.Common.{rules}
use Rattle.shared_table.proofs.Growing.{put_grown}
use Rattle.shared_table.proofs.store.SharedStoreFrontStore.put.Goals as goal

pub returns-clause-grown : goal.returns-clause-grown
returns-clause-grown c = record {
  table = search rules;
  pass = search rules;
  each = λ k. put_grown c.args.self.now.table.now.plan c.args.entry c.args.self.now.pass.now.seat.me.0 c.put.new.pass.seat.me.0 c.put.result c.put.ensures.answer k;
}
