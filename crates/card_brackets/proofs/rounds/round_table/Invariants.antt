use Rattle.std.proofs.Common.{◌≡◌, true}
use Rattle.card_brackets.specs.Rows.{are_final}
use Rattle.shared_table.specs.Passes.{IsPassOf}
use Rattle.root_workers.specs.Plain.{IsPlain}
use Rattle.card_brackets.proofs.Fitting.{AreSmall}
use Rattle.card_brackets.proofs.Leading.{RowsSoFar}
use Rattle.card_brackets.proofs.rounds.round_table.Given as goal

abbrev pub invariant-loop-entry : goal.invariant-loop-entry
invariant-loop-entry l = record {
  so : RowsSoFar l.question.node.now l.question.weights.now l.question.moves l.entry-index l.rows.items l.best;
  finals : l.only_final ≡ true → are_final l.rows.items ≡ true;
  small : IsPlain l.question.options.now → AreSmall l.question.node.now l.question.moves l.question.options.now.nodes l.entry-index;
  pass : IsPassOf l.question.table.now l.pass;
}
