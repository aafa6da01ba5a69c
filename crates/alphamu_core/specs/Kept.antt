-- Choices of a node that are enough to try, and how they are taken one after the other.
use Rattle.std.specs.Prelude.{◌≡◌, ◌+◌, ◌≤◌, ◌<◌, ◌⊎◌, ℕ, List, length, Contains, sum_by}
use Rattle.trick_rules.specs.Nodes.{NodeValue, choices}
use Rattle.equal_cards.specs.Equals.{ComeToTheSame}

-- some of the choices, each with no larger a tree than all of them together; each choice has a kept one that comes to the same
pub record AreEnough (n : NodeValue) (cards : List ℕ) : Type 0 where
  pub within : (card : ℕ) → Contains cards card → Contains (choices n) card
  pub each : (card : ℕ) → Contains (choices n) card
      → (kept : ℕ) × Contains cards kept × ComeToTheSame n kept card
  pub sums : (size : ℕ → ℕ) → sum_by size cards ≤ sum_by size (choices n)

-- a card is taken out of some cards, each of which stands there once
pub record IsTaken (cards : List ℕ) (card : ℕ) (rest : List ℕ) : Type 0 where
  pub among : Contains cards card
  pub part : (other : ℕ) → Contains rest other → Contains cards other
  pub others : (other : ℕ) → Contains cards other → (other ≡ card) ⊎ Contains rest other
  pub sums : (size : ℕ → ℕ) → sum_by size cards ≡ size card + sum_by size rest
  pub fewer : length rest < length cards
