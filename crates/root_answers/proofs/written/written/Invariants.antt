use Rattle.std.proofs.Common.{[], take}
use Rattle.root_answers.specs.EntryTexts.{AreEntriesWritten}
use Rattle.root_answers.proofs.written.written.Given as goal

abbrev pub invariant-loop-vector : goal.invariant-loop-vector
invariant-loop-vector g l = AreEntriesWritten l.question.node.now l.question.weights.now l.question.moves (take l.vector-index l.vectors) [] l.out
