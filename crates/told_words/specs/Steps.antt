-- A step of a told plan.
use Rattle.std.specs.Prelude.{ℕ, List, [], ◌∷◌, ◌++◌}
use Rattle.trick_rules.specs.Nodes.{NodeValue}
use Rattle.told_words.specs.Turns.{after_cards}

-- it comes after one card of each of these sets, and stands for these nodes
pub record StepValue : Type 0 where
  pub sets : List (List ℕ)
  pub places : List NodeValue

-- the first step at a node
abbrev pub first_step : NodeValue → StepValue
first_step n = record { sets = []; places = n ∷ [] }

-- the step after one of these cards
abbrev pub step_after : List ℕ → StepValue → StepValue
step_after cards step = record { sets = step.sets ++ cards ∷ []; places = after_cards cards step.places }
