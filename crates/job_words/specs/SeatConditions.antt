-- Conditions on the hands of the four seats.
use Rattle.std.specs.Prelude.{List}
use Rattle.hand_conditions.specs.declared.term.Term.{Term}

-- for each seat some conditions, of which its hand has to meet one
pub record SeatConditionsValue : Type 0 where
  pub north : List (List Term)
  pub east : List (List Term)
  pub south : List (List Term)
  pub west : List (List Term)
