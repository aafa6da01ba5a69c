-- A turn of a trick.
use Rattle.std.specs.Prelude.{◌≡◌}
use Rattle.card_sets.specs.SetWords.{cards_where}
use Rattle.trick_rules.specs.Positions.{State, IsState}
use Rattle.double_dummy.specs.Equals.{in_play}
use Rattle.dd_solver.specs.declared.turn.Turn.{Turn}
use Rattle.dd_solver.specs.Shapes.{IsShapeOf}

-- the position at a turn, and Left's hand
abbrev pub turn_state : Turn → State
turn_state turn = record { position = turn.position; left = turn.left }

-- they fit each other, and the cards in play and the shape are those of the position
pub record IsTurn (turn : Turn) : Type 0 where
  pub state : IsState (turn_state turn)
  pub playing : turn.playing ≡ cards_where (in_play turn.position)
  pub shape : IsShapeOf turn.shape (turn_state turn)
