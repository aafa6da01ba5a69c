use Rattle.std.proofs.Common.{IfSome}
use Rattle.alphamu_core.specs.Costs.{IsWithin}
use Rattle.front_table.specs.Proven.{IsFrontAt}
use Rattle.shared_table.specs.Passes.{IsPassOf}
use Rattle.root_workers.specs.Rounds.{HasSeenMore}
use Rattle.root_workers.proofs.deepening.Rounds.deepened.Given as goal

abbrev pub invariant-loop-fewer : goal.invariant-loop-fewer
invariant-loop-fewer g l = record {
  pass : IsPassOf l.self.question.now.table.now l.pass;
  grown : HasSeenMore l.fn.pass l.pass;
  front : IsFrontAt l.self.question.now.node.now l.fewer l.front;
  most : IfSome l.most (IsWithin l.self.question.now.options.now.nodes);
}
