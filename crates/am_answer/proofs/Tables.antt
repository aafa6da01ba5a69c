-- The text of a job that asks no defender is its text at every table.
use Rattle.std.proofs.Common.{ℕ, List, Result, Ok, Err}
use Rattle.std.specs.Prelude.{IfOk}
use Rattle.am_match.specs.Defences.{Sitter}
use Rattle.am_answer.specs.declared.status.Status.{Status}
use Rattle.am_answer.specs.Tasks.{TaskValue, Solve, Card, Match, Fusion, Prove, Audit, Check, Made, Boards}
use Rattle.am_answer.specs.Tasks as tasks
use Rattle.am_answer.specs.Reports.{IsText, IsTextAt}
use Rattle.am_answer.specs.Stages.{IsTextFor, IsTextForAt}

text-at : (task : TaskValue) (table later : List Sitter) (text : List ℕ) → IsText task text → IsTextAt task table later text
text-at (Solve root moves search) table later text is = is
text-at (Card root moves search) table later text is = is
text-at (Match root moves search playing) table later text is = absurd is
text-at (Fusion root) table later text is = is
text-at (Prove root moves nodes) table later text is = is
text-at (Audit root audit) table later text is = is
text-at (Check plans) table later text is = is
text-at (tasks.List board layouts) table later text is = is
text-at (Made number root search) table later text is = is
text-at (Boards roots moves search) table later text is = is

pub text_for_at : (answer : Result TaskValue Status) (table later : List Sitter) (text : List ℕ) → IsTextFor answer text → IsTextForAt answer table later text
text_for_at answer table later text is = record {
  task = is.task;
  accepted = is.accepted;
  is_text = text-at is.task table later text is.is_text;
  fits = is.fits;
}

pub texts_for_at : {E : Type 0} (result : Result (List ℕ) E) (answer : Result TaskValue Status) (table later : List Sitter) → IfOk result (IsTextFor answer) → IfOk result (IsTextForAt answer table later)
texts_for_at (Ok text) answer table later is = text_for_at answer table later text is
texts_for_at (Err e) answer table later is = tt
