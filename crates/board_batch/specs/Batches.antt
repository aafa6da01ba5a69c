-- What a batch asks, and what a worker may find of a problem.
use Rattle.std.specs.Prelude.{◌≡◌, ◌≤◌, ⊤, ℕ, Some, Result, Ok, Err, All, slice_get}
use Rattle.std.specs.Borrow.{Bor, MutBor}
use Rattle.trick_rules.specs.Nodes.{most_moves}
use Rattle.strategy_tree.specs.declared.root_fault.RootFault.{RootFault}
use Rattle.strategy_tree.specs.declared.root_fault.RootFault.TheVariants.{Spent, Memory}
use Rattle.root_answers.specs.declared.written.WrittenAnswer.{WrittenAnswer}
use Rattle.root_answers.specs.Written.{IsWrittenAnswer}
use Rattle.strategy_tree.specs.RootTrees.{IsSpentAt, IsFirstSpentAt, AllFit}
use Rattle.root_workers.specs.Plain.{IsPlain, HasWorkers}
use Rattle.root_workers.specs.Rounds.{HasSeenMore}
use Rattle.shared_table.specs.declared.Pass.{Pass}
use Rattle.shared_table.specs.Passes.{IsPassOf}
use Rattle.board_batch.specs.declared.batch.Problem.{Problem}
use Rattle.board_batch.specs.declared.batch.Batch.{Batch}
use Rattle.board_batch.specs.Problems.{IsProblem}

-- problems that can be solved with this many moves
pub record IsBatch (b : Batch) : Type 0 where
  pub problems : All IsProblem b.problems.now
  pub some_moves : 1 ≤ b.moves
  pub few_moves : b.moves ≤ most_moves
  pub workers : HasWorkers b.options

-- the answer of a problem; a plain search has met no tree that is too large
abbrev pub IsSolved : Batch → Problem → WrittenAnswer → Type 0
IsSolved b p answer = IsWrittenAnswer p.node.now p.weights.now b.moves answer
    × (IsPlain b.options → AllFit p.node.now b.moves b.options.nodes)

-- a root card of a problem whose tree is too large, in a plain search the first one
abbrev pub IsSpentOf : Batch → Problem → ℕ → Type 0
IsSpentOf b p card = IsSpentAt p.node.now b.moves b.options.nodes card
    × (IsPlain b.options → IsFirstSpentAt p.node.now b.moves b.options.nodes card)

-- what the search of a problem may end with, whoever makes it
abbrev pub IsOutcome : Batch → Problem → Result WrittenAnswer RootFault → Type 0
IsOutcome b p (Ok answer) = IsSolved b p answer
IsOutcome b p (Err (Spent card)) = IsSpentOf b p card
IsOutcome b p (Err Memory) = ⊤

-- the same of the problem at a place, counted from 0
pub record IsOutcomeAt (b : Batch) (place : ℕ) (outcome : Result WrittenAnswer RootFault) : Type 0 where
  pub problem : Problem
  pub here : slice_get b.problems.now place ≡ Some problem
  pub outcome_is : IsOutcome b problem outcome

-- whichever worker solves a problem over a pass of the table, it ends with what it may end with
abbrev pub Solves : Batch → (ℕ → Bor Problem → MutBor Pass → Type 0) → (ℕ → Bor Problem → MutBor Pass → Result WrittenAnswer RootFault → MutBor Pass → Type 0) → Type 0
Solves b can gives = (worker : ℕ) (problem : Bor Problem) (pass : MutBor Pass) → IsProblem problem.now → IsPassOf b.table.now pass.now
    → can worker problem pass × ((outcome : Result WrittenAnswer RootFault) (late : MutBor Pass) → gives worker problem pass outcome late
    → IsOutcome b problem.now outcome × IsPassOf b.table.now late.now × HasSeenMore pass.now late.now)
