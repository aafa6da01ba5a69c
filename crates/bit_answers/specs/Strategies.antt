-- The strategy for a vector of the front, as an array of nodes.
use Rattle.std.specs.Prelude.{◌≡◌, ◌≤◌, ℕ, List, Some, length, slice_get}
use Rattle.win_vectors.specs.Fronts.{Vector}
use Rattle.trick_rules.specs.Nodes.{NodeValue}
use Rattle.strategy_games.specs.Plans.{Plan, Fits, wins_vector, IsFront}
use Rattle.strategy_games.specs.Choosing.{IsChosenPlan}
use Rattle.strategy_tree.specs.Bridge.{bridge}
use Rattle.flat_plans.specs.declared.node.PlanNode.{PlanNode}
use Rattle.flat_plans.specs.Arrays.{Shows}
use Rattle.bit_questions.specs.declared.question.Question as questions
use Rattle.bit_answers.specs.declared.fault.BitFault.{BitFault}
use Rattle.bit_answers.specs.declared.fault.BitFault.TheVariants.{Question, Spent, NoVector}
use Rattle.bit_answers.specs.Faults.{IsRefusedFor}
use Rattle.bit_answers.specs.Answers.{HoldsAt}

-- a strategy with these moves that wins exactly the vector at this place of the front: the one that a report has for it
pub record IsStrategyFor (n : NodeValue) (moves place : ℕ) (plan : Plan ℕ) : Type 0 where
  pub front : List Vector
  pub is_front : IsFront bridge n moves front
  pub vector : Vector
  pub here : slice_get front place ≡ Some vector
  pub fits : Fits bridge plan n moves
  pub wins : wins_vector bridge plan n ≡ vector
  pub chosen : IsChosenPlan bridge plan n moves vector

-- an array of nodes that shows such a strategy
abbrev pub IsStrategy : NodeValue → ℕ → ℕ → List PlanNode → Type 0
IsStrategy n moves place nodes = (plan : Plan ℕ) × IsStrategyFor n moves place plan × Shows nodes plan

-- the front has no vector at this place
abbrev pub IsPastFront : NodeValue → ℕ → ℕ → Type 0
IsPastFront n moves place = (front : List Vector) × IsFront bridge n moves front × (length front ≤ place)

-- why there is no strategy: no such vector, or what refuses the question
abbrev pub IsNoStrategy : questions.Question → List ℕ → List ℕ → ℕ → BitFault → Type 0
IsNoStrategy q lefts weights place NoVector = HoldsAt q lefts (λ n. IsPastFront n q.moves place)
IsNoStrategy q lefts weights place (Question fault) = IsRefusedFor q lefts weights (Question fault)
IsNoStrategy q lefts weights place (Spent card) = IsRefusedFor q lefts weights (Spent card)
