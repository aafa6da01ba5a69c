-- When a loop over the cards of declarer's side may stop.
use Rattle.std.specs.Prelude.{◌≡◌, ◌≤◌, ℕ, true, false, Option, Some, None, List, [], Contains}
use Rattle.win_vectors.specs.Fronts.{Vector}
use Rattle.win_vectors.specs.Weights.{weight_of}
use Rattle.trick_rules.specs.Positions.{to_play}
use Rattle.trick_rules.specs.Play.{is_declarers, is_over}
use Rattle.trick_rules.specs.Nodes.{NodeValue, IsNode, choices}

-- declarer's side is to play at the node, and the cards are some of the choices
pub record AreOurCards (n : NodeValue) (cards : List ℕ) : Type 0 where
  pub a_node : IsNode n
  pub goes_on : is_over n.position ≡ false
  pub ours : is_declarers (to_play n.position) ≡ true
  pub choices : (card : ℕ) → Contains cards card → Contains (choices n) card

-- by these weights, a vector of the list weighs this much, and none weighs more
pub record IsGreatestWeight (ws : List ℕ) (vectors : List Vector) (weight : ℕ) : Type 0 where
  pub reached : (v : Vector) × Contains vectors v × (weight_of ws v ≡ weight)
  pub most : (v : Vector) → Contains vectors v → weight_of ws v ≤ weight

-- the greatest weight, if the list has a vector
abbrev pub IsGreatestOf : List ℕ → List Vector → Option ℕ → Type 0
IsGreatestOf ws vectors None = vectors ≡ []
IsGreatestOf ws vectors (Some weight) = IsGreatestWeight ws vectors weight
