-- A node: a position and the layouts that are thought possible, each by Left's hand.
use Rattle.std.specs.Prelude.{ℕ, ◌≤◌, Bool, ◌||◌, List, length, map, filter, All, is_some, ◌==◌}
use Rattle.std.specs.List.{list_any}
use Rattle.card_sets.specs.SetWords.{has_card, cards_where}
use Rattle.win_vectors.specs.Vectors.{most_layouts}
use Rattle.trick_rules.specs.Positions.{PositionValue, State, IsSound, FitsLeft}
use Rattle.trick_rules.specs.Play.{after_card, take_out, legal_in, decided}

-- the most moves of declarer's side that a plan is given: its cards of thirteen tricks
abbrev pub most_moves : ℕ
most_moves = 26

-- a position, and Left's hand in each layout
pub record NodeValue : Type 0 where
  pub position : PositionValue
  pub lefts : List (List ℕ)

-- a sound position with 1 to 256 Left hands that fit it
pub record IsNode (n : NodeValue) : Type 0 where
  pub sound : IsSound n.position
  pub fits : All (FitsLeft n.position) n.lefts
  pub some : 1 ≤ length n.lefts
  pub few : length n.lefts ≤ most_layouts

-- the position with Left's hand, for each layout in order
abbrev pub states : NodeValue → List State
states n = map (λ left. record { position = n.position; left = left }) n.lefts

-- a plan stops here: no moves of declarer's side are left, or the result is decided
abbrev pub stops : NodeValue → ℕ → Bool
stops n moves = (moves == 0) || is_some (decided n.position)

-- whether a card is legal for the seat to play where Left holds these cards
abbrev pub is_legal : PositionValue → ℕ → List ℕ → Bool
is_legal t card left = has_card (legal_in (record { position = t; left = left })) card

-- the cards that are legal in at least one layout, in card order
abbrev pub choices : NodeValue → List ℕ
choices n = cards_where (λ card. list_any (is_legal n.position card) n.lefts)

-- the position after a card, with the layouts in which the card is legal, in order
abbrev pub child : NodeValue → ℕ → NodeValue
child n card = record { position = after_card n.position card; lefts = map (take_out card) (filter (is_legal n.position card) n.lefts) }

-- a 1 at each layout in which the card is legal
abbrev pub child_mask : NodeValue → ℕ → List Bool
child_mask n card = map (is_legal n.position card) n.lefts
