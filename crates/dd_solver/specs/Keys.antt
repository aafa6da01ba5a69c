-- A position between two tricks as the memo holds it.
use Rattle.std.specs.Prelude.{◌≡◌, ℕ, true, List}
use Rattle.card_sets.specs.SetWords.{has_card}
use Rattle.trick_rules.specs.Positions.{State, position_between_tricks}
use Rattle.dd_solver.specs.declared.key.Key.{Key}
use Rattle.dd_solver.specs.Shapes.{IsShapeOf}

-- the position of a key, and Left's hand
abbrev pub key_state : Key → State
key_state key = record { position = position_between_tricks key.declarer key.dummy key.unseen key.leader key.need key.trump; left = key.left }

-- the shape of a key is that of its hands
abbrev pub HasShape : Key → Type 0
HasShape key = IsShapeOf key.shape (key_state key)

-- the cards that count are the same in both sets
abbrev pub AreSame : List ℕ → List ℕ → List ℕ → Type 0
AreSame counting these those = (card : ℕ) → has_card counting card ≡ true
    → has_card these card ≡ has_card those card

-- two keys of one shape, leader and trumps, whose hands have the same of the cards that count
pub record AreLikeKeys (counting : List ℕ) (key other : Key) : Type 0 where
  pub shape : key.shape ≡ other.shape
  pub leader : key.leader ≡ other.leader
  pub trump : key.trump ≡ other.trump
  pub declarer : AreSame counting key.declarer other.declarer
  pub dummy : AreSame counting key.dummy other.dummy
  pub unseen : AreSame counting key.unseen other.unseen
  pub left : AreSame counting key.left other.left
