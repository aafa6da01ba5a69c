-- Plans that are written as text.
use Rattle.std.specs.Prelude.{◌≡◌, ◌+◌, ℕ, Option, IfSome, List, ◌++◌, length, All}
use Rattle.win_vectors.specs.Fronts.{Vector}
use Rattle.trick_rules.specs.Nodes.{NodeValue, choices}
use Rattle.strategy_games.specs.Plans.{Plan, Replies, cards_of}
use Rattle.strategy_games.specs.Choosing.{IsChosenPlan, AreChosenReplies}
use Rattle.strategy_tree.specs.Bridge.{bridge}
use Rattle.strategy_tree.specs.PlanText.{plan_text, replies_text}
use Rattle.plan_finder.specs.declared.writer.WrittenPlan.{WrittenPlan}

-- a text has grown by the lines of the plan that is chosen for a vector of a node
pub record IsPlanWritten (n : NodeValue) (moves : ℕ) (vector : Vector) (before after : List ℕ) : Type 0 where
  pub plan : Plan ℕ
  pub chosen : IsChosenPlan bridge plan n moves vector
  pub lines : after ≡ before ++ plan_text plan

-- it has grown by the replies to all cards of a defender but these, each with the plan for its part of the vector
pub record AreRepliesWritten (n : NodeValue) (moves : ℕ) (vector : Vector) (cards : List ℕ) (before after : List ℕ) : Type 0 where
  pub replies : Replies ℕ
  pub split : choices n ≡ cards_of replies ++ cards
  pub chosen : AreChosenReplies bridge replies n moves vector
  pub lines : after ≡ before ++ replies_text replies

-- the lines of the chosen plan stand in the text, from one place to another
pub record StandsWritten (n : NodeValue) (moves : ℕ) (vector : Vector) (text : List ℕ) (start end : ℕ) : Type 0 where
  pub plan : Plan ℕ
  pub chosen : IsChosenPlan bridge plan n moves vector
  pub before : List ℕ
  pub after : List ℕ
  pub lines : text ≡ before ++ (plan_text plan ++ after)
  pub begins : start ≡ length before
  pub ends : end ≡ length before + length (plan_text plan)

-- they stand at its end
pub record EndsWritten (n : NodeValue) (moves : ℕ) (vector : Vector) (text : List ℕ) (start : ℕ) : Type 0 where
  pub before : List ℕ
  pub written : IsPlanWritten n moves vector before text
  pub begins : start ≡ length before

-- what is in a slot stands in the text
abbrev pub SlotStands : List ℕ → Option WrittenPlan → Type 0
SlotStands text slot = IfSome slot (λ w. StandsWritten w.key.node w.key.moves w.key.vector text w.lines.start w.lines.end)

abbrev pub AllStand : List ℕ → List (Option WrittenPlan) → Type 0
AllStand text slots = All (SlotStands text) slots
