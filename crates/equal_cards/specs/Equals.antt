-- Equal cards of a node.
use Rattle.std.specs.Prelude.{◌≡◌, ◌<◌, ◌↔◌, ℕ, true, false, List}
use Rattle.card_sets.specs.Cards.{suit_of}
use Rattle.card_sets.specs.SetWords.{has_card}
use Rattle.win_vectors.specs.Fronts.{Vector}
use Rattle.trick_rules.specs.Nodes.{NodeValue, choices, child, child_mask}
use Rattle.double_dummy.specs.Equals.{in_play}
use Rattle.strategy_games.specs.Plans.{IsFront}
use Rattle.strategy_tree.specs.Bridge.{bridge}

-- two choices of one suit that are legal in the same layouts, with no card in play between them in
-- card order
pub record AreEqualAt (n : NodeValue) (low high : ℕ) : Type 0 where
  pub low_choice : has_card (choices n) low ≡ true
  pub high_choice : has_card (choices n) high ≡ true
  pub same_layouts : child_mask n low ≡ child_mask n high
  pub suit : suit_of low ≡ suit_of high
  pub order : low < high
  pub between : (card : ℕ) → low < card → card < high → in_play n.position card ≡ false

-- a choice that has no lower equal card
pub record IsLowest (n : NodeValue) (card : ℕ) : Type 0 where
  pub choice : has_card (choices n) card ≡ true
  pub no_lower : (low : ℕ) → AreEqualAt n low card → ⊥

-- two cards that come to the same: they are legal in the same layouts, and the nodes after them
-- have one front with each number of moves
pub record ComeToTheSame (n : NodeValue) (card other : ℕ) : Type 0 where
  pub same_layouts : child_mask n card ≡ child_mask n other
  pub one_front : (moves : ℕ) (front : List Vector)
      → IsFront bridge (child n card) moves front ↔ IsFront bridge (child n other) moves front
