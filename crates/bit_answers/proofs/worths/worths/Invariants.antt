use Rattle.std.proofs.Common.{take}
use Rattle.std.specs.List.{AllZip}
use Rattle.trick_rules.specs.Nodes.{choices}
use Rattle.shared_table.specs.Passes.{IsPassOf}
use Rattle.bit_answers.specs.Answers.{IsWorth}
use Rattle.bit_answers.proofs.worths.worths.Given as goal

abbrev pub invariant-loop-entry : goal.invariant-loop-entry
invariant-loop-entry l = record {
  so_far : AllZip (IsWorth l.asked.node l.asked.weights l.asked.moves) (take l.entry-index (choices l.asked.node)) l.all.items;
  pass : IsPassOf l.table l.pass;
}
