-- The answers of the games that have a root.
use Rattle.std.specs.Prelude.{◌≡◌, ℕ, List, Some, Result, slice_get}
use Rattle.std.specs.List.{AllZip}
use Rattle.root_answers.specs.declared.written.WrittenAnswer.{WrittenAnswer}
use Rattle.am_answer.specs.declared.root.Root.{Root}
use Rattle.am_answer.specs.declared.status.Status.{Status}
use Rattle.root_answers.specs.Written.{IsWrittenAnswer}
use Rattle.job_boards.specs.Accepted.{accepted}

-- the answer at a root by this many moves
abbrev pub IsAnswerAt : ℕ → Root → WrittenAnswer → Type 0
IsAnswerAt moves root answer = IsWrittenAnswer root.kept.node root.kept.weights moves answer

-- an answer for each game that has a root, in order
abbrev pub AreAnswersOf : ℕ → List (Result Root Status) → List WrittenAnswer → Type 0
AreAnswersOf moves games answers = AllZip (IsAnswerAt moves) (accepted games) answers

-- the answer at a place, counted from 0, is that of the root
pub record HasAnswer (moves : ℕ) (answers : List WrittenAnswer) (place : ℕ) (root : Root) : Type 0 where
  pub answer : WrittenAnswer
  pub there : slice_get answers place ≡ Some answer
  pub own : IsAnswerAt moves root answer
