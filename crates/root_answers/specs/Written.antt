-- An answer whose vectors and plans are lines of a report.
use Rattle.std.specs.Prelude.{◌≡◌, ℕ, List, length, flat_map}
use Rattle.trick_rules.specs.Nodes.{NodeValue}
use Rattle.am_report.specs.Answers.{SolveAnswerValue}
use Rattle.am_report.specs.Solve.{entry_text}
use Rattle.am_answer.specs.Reports.{IsSolveAnswer}
use Rattle.root_answers.specs.declared.written.WrittenAnswer.{WrittenAnswer}

-- the answer of a node, with the lines of all its vectors and their plans
pub record IsWrittenAnswer (n : NodeValue) (weights : List ℕ) (moves : ℕ) (w : WrittenAnswer) : Type 0 where
  pub answer : SolveAnswerValue
  pub is_answer : IsSolveAnswer n weights moves answer
  pub lines : w.lines ≡ flat_map (entry_text weights) answer.entries
  pub vectors : w.vectors ≡ length answer.entries
  pub card : w.card ≡ answer.card
  pub weight : w.weight ≡ answer.weight
