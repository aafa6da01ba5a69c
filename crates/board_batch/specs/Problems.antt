-- Many problems, each with an answer of its own.
use Rattle.std.specs.Prelude.{◌≡◌, ℕ, true, false, List, Some, All, length, take, slice_get}
use Rattle.strategy_tree.specs.Bridge.{bridge}
use Rattle.root_answers.specs.declared.written.WrittenAnswer.{WrittenAnswer}
use Rattle.root_answers.specs.Written.{IsWrittenAnswer}
use Rattle.strategy_tree.specs.RootTrees.{IsSpentAt, IsFirstSpentAt, AllFit}
use Rattle.board_batch.specs.declared.batch.Problem.{Problem}

-- declarer's side is to play, the play isn't over, and each layout has a weight
pub record IsProblem (p : Problem) : Type 0 where
  pub ours : bridge.is_ours p.node.now ≡ true
  pub goes_on : bridge.is_over p.node.now ≡ false
  pub weights : length p.weights.now ≡ length p.node.now.lefts

-- one answer a problem, in order: each is that of its problem by this many moves
pub record AreAnswers (problems : List Problem) (moves : ℕ) (answers : List WrittenAnswer) : Type 0 where
  pub all : length answers ≡ length problems
  pub each : (place : ℕ) (p : Problem) (answer : WrittenAnswer) → slice_get problems place ≡ Some p
      → slice_get answers place ≡ Some answer → IsWrittenAnswer p.node.now p.weights.now moves answer

-- no tree after a root card of one of the problems is too large
abbrev pub AllProblemsFit : List Problem → ℕ → ℕ → Type 0
AllProblemsFit problems moves nodes = All (λ p. AllFit p.node.now moves nodes) problems

-- some problem has this number, and it has this at its place
pub record HasProblem (problems : List Problem) (number : ℕ) (so : ℕ → Problem → Type 0) : Type 0 where
  pub place : ℕ
  pub problem : Problem
  pub here : slice_get problems place ≡ Some problem
  pub numbered : number ≡ problem.number
  pub spent : so place problem

-- the problem of this number has this root card, and the tree after it is too large
abbrev pub IsSpentIn : List Problem → ℕ → ℕ → ℕ → ℕ → Type 0
IsSpentIn problems moves nodes number card = HasProblem problems number (λ place problem. IsSpentAt problem.node.now moves nodes card)

-- the first problem with a tree that is too large, by its number, and the first such root card of it
abbrev pub IsFirstSpentIn : List Problem → ℕ → ℕ → ℕ → ℕ → Type 0
IsFirstSpentIn problems moves nodes number card =
    HasProblem problems number (λ place problem. IsFirstSpentAt problem.node.now moves nodes card × AllProblemsFit (take place problems) moves nodes)
