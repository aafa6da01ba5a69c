-- A later position with some of the layouts of a node, by their numbers there.
use Rattle.std.specs.Prelude.{◌≡◌, ℕ, List, length, map, filter}
use Rattle.std.specs.List.{items_where_true}
use Rattle.card_sets.specs.SetWords.{has_card}
use Rattle.win_vectors.specs.Vectors.{meet_of}
use Rattle.win_vectors.specs.Fronts.{Vector}
use Rattle.trick_rules.specs.Positions.{PositionValue}
use Rattle.trick_rules.specs.Play.{after_card}
use Rattle.trick_rules.specs.Nodes.{NodeValue, IsNode, is_legal, child}

-- what is left of a Left hand: its cards that are still unseen
abbrev pub still_held : PositionValue → List ℕ → List ℕ
still_held t left = filter (has_card t.unseen) left

-- the position with the layouts of a set, of those that the list numbers
abbrev pub node_at : List (List ℕ) → PositionValue → Vector → NodeValue
node_at layouts t set = record { position = t; lefts = map (still_held t) (items_where_true set layouts) }

-- a set of layouts, one at least, each of which fits the position
pub record AreLayoutsAt (layouts : List (List ℕ)) (t : PositionValue) (set : Vector) : Type 0 where
  pub width : length set ≡ length layouts
  pub node : IsNode (node_at layouts t set)

-- a 1 at each layout in which the card is legal
abbrev pub legal_at : List (List ℕ) → PositionValue → ℕ → Vector
legal_at layouts t card = map (λ left. is_legal t card (still_held t left)) layouts

-- A card leaves each layout its number: after it are those of the set in which it is legal, whatever was played before.
abbrev pub KeepsNumbers : Type 0
KeepsNumbers = (layouts : List (List ℕ)) (t : PositionValue) (set : Vector) (card : ℕ)
    → length set ≡ length layouts → child (node_at layouts t set) card
    ≡ node_at layouts (after_card t card) (meet_of set (legal_at layouts t card))
