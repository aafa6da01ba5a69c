-- The card that a plan takes.
use Rattle.std.specs.Prelude.{◌≡◌, ◌-◌, ◌<◌, ◌≤◌, ℕ, List, Contains}
use Rattle.win_vectors.specs.Fronts.{Vector, Covers}
use Rattle.trick_rules.specs.Nodes.{NodeValue, choices, child}
use Rattle.strategy_games.specs.Plans.{IsFront, tree_size}
use Rattle.strategy_games.specs.Choosing.{Keeps, IsFirstOf, IsPick}
use Rattle.strategy_tree.specs.Bridge.{bridge}
use Rattle.plan_finder.specs.declared.choice.Choice.{Choice}

-- the first card after which some vector of the front dominates this one, the node after it, and the first such vector there
pub record IsFirstChoice (n : NodeValue) (moves : ℕ) (vector : Vector) (choice : Choice) : Type 0 where
  pub first : IsFirstOf (Keeps bridge n (moves - 1) vector) (choices n) choice.card
  pub after : choice.child ≡ child n choice.card
  pub goes_on_with : IsPick bridge (child n choice.card) (moves - 1) vector choice.vector

-- a card that isn't after the first choice: the tree after it has more nodes than this
pub record IsChoiceSpentAt (n : NodeValue) (moves : ℕ) (vector : Vector) (nodes card : ℕ) : Type 0 where
  pub choice : Contains (choices n) card
  pub larger : nodes < tree_size bridge (child n card) (moves - 1)
  pub not_after : (first : ℕ) → IsFirstOf (Keeps bridge n (moves - 1) vector) (choices n) first → card ≤ first

-- no vector of the front dominates this one
abbrev pub KeepsNone : NodeValue → ℕ → Vector → Type 0
KeepsNone n moves vector = (front : List Vector) → IsFront bridge n moves front → Covers front vector → ⊥
