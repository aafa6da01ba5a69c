use Rattle.shared_table.specs.Passes.{IsPassOf}
use Rattle.card_brackets.proofs.Tables.{AreOpenBelow}
use Rattle.card_brackets.proofs.table.card_table.Given as goal

abbrev pub invariant-loop-moves : goal.invariant-loop-moves
invariant-loop-moves l = record {
  below : AreOpenBelow l.question.node.now l.question.weights.now l.moves;
  pass : IsPassOf l.question.table.now l.pass;
}
