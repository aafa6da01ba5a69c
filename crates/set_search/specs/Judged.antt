-- Layouts at a position, by their numbers: what double dummy says of them, and which no strategy wins together.
use Rattle.std.specs.Prelude.{◌≡◌, ◌||◌, ◌==◌, ℕ, Bool, true, false, is_some, List, [], get_or, Contains}
use Rattle.win_vectors.specs.Fronts.{Vector}
use Rattle.trick_rules.specs.Positions.{PositionValue, State}
use Rattle.trick_rules.specs.Play.{makes, decided}
use Rattle.trick_rules.specs.Nodes.{NodeValue, states}
use Rattle.set_nodes.specs.SetNodes.{still_held}

-- plans stop here: no moves are left, or the result is decided
abbrev pub stops_here : PositionValue → ℕ → Bool
stops_here t moves = (moves == 0) || is_some (decided t)

-- double dummy makes each layout
abbrev pub AreAllMade : NodeValue → Type 0
AreAllMade n = (s : State) → Contains (states n) s → makes s ≡ true

-- double dummy's result in a layout
abbrev pub makes_there : List (List ℕ) → PositionValue → ℕ → Bool
makes_there layouts t place = makes (record { position = t; left = still_held t (get_or layouts place []) })

-- a layout of the set, which double dummy loses
pub record IsLostPlace (layouts : List (List ℕ)) (t : PositionValue) (set : Vector) (place : ℕ) : Type 0 where
  pub chosen : get_or set place false ≡ true
  pub lost : makes_there layouts t place ≡ false
