-- What a round found of the root cards, in card order.
use Rattle.std.specs.Prelude.{◌≡◌, ◌-◌, ◌<◌, ℕ, List, Some, take, slice_get, length}
use Rattle.trick_rules.specs.Nodes.{NodeValue, choices, child}
use Rattle.front_table.specs.Proven.{IsFrontAt}
use Rattle.alphamu_core.specs.declared.answers.Found.{Found}
use Rattle.alphamu_core.specs.declared.answers.Found.TheVariants.{Exact, Below}
use Rattle.root_workers.specs.Roots.{IsCoveredBefore, AreEnough}

-- a front is the one after the card; where cuts are made, the cards before it may cover it
abbrev pub IsFoundAfter : NodeValue → ℕ → Type 0 → List ℕ → ℕ → Found → Type 0
IsFoundAfter n moves cuts earlier card (Exact front) = IsFrontAt (child n card) (moves - 1) front
IsFoundAfter n moves cuts earlier card Below = IsCoveredBefore n moves earlier card × cuts

-- what was found of the root card at a place, counted from 0
pub record IsFoundAt (n : NodeValue) (moves : ℕ) (cuts : Type 0) (place : ℕ) (found : Found) : Type 0 where
  pub card : ℕ
  pub here : slice_get (choices n) place ≡ Some card
  pub found_is : IsFoundAfter n moves cuts (take place (choices n)) card found

-- what was found of each root card; where cuts are made, the last ones may be left out where the others are enough
pub record AreFound (n : NodeValue) (moves : ℕ) (cuts : Type 0) (founds : List Found) : Type 0 where
  pub each : (place : ℕ) (found : Found) → slice_get founds place ≡ Some found → IsFoundAt n moves cuts place found
  pub enough : length founds < length (choices n) → AreEnough n moves (take (length founds) (choices n)) × cuts
