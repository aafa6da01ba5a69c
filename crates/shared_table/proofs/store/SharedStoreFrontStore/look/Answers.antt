use Rattle.std.proofs.Common.{rules}
use Rattle.shared_table.proofs.Growing.{look_grown}
use Rattle.shared_table.proofs.store.SharedStoreFrontStore.look.Goals as goal

pub returns-clause-grown : goal.returns-clause-grown
returns-clause-grown c = record {
  table = search rules;
  pass = search rules;
  each = λ k. look_grown c.args.self.now.table.now.plan c.args.node.now c.args.moves c.args.self.now.pass.now.seat.me.0 c.look.new.pass.seat.me.0 c.look.result c.look.ensures.answer k;
}
