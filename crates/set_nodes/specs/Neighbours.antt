-- Neighbours: a defender's card needs no answer of its own if its neighbour tells declarer no more.
use Rattle.std.specs.Prelude.{◌≡◌, ◌⊎◌, ◌<◌, ℕ, true, false, List, Contains}
use Rattle.card_sets.specs.Cards.{suit_of}
use Rattle.card_sets.specs.SetWords.{has_card}
use Rattle.trick_rules.specs.Positions.{PositionValue}
use Rattle.trick_rules.specs.Nodes.{NodeValue, IsNode, is_legal, choices, child}
use Rattle.double_dummy.specs.Equals.{in_play}
use Rattle.strategy_tree.specs.Bridge.{bridge}
use Rattle.winnable_sets.specs.Sets.{IsWonThroughout}

-- two cards of one suit, and no card in play between them
pub record AreNeighbours (t : PositionValue) (low high : ℕ) : Type 0 where
  pub suit : suit_of low ≡ suit_of high
  pub order : low < high
  pub between : (card : ℕ) → low < card → card < high → in_play t card ≡ false

-- the other card is a neighbour of this one, and legal in each layout in which this one is
pub record TellsNoMore (n : NodeValue) (other card : ℕ) : Type 0 where
  pub near : AreNeighbours n.position card other ⊎ AreNeighbours n.position other card
  pub wherever : (left : List ℕ) → Contains n.lefts left → is_legal n.position card left ≡ true
      → is_legal n.position other left ≡ true

-- What is won throughout after the other card is won throughout after this one.
abbrev pub NeighbourIsEnough : Type 0
NeighbourIsEnough = (n : NodeValue) (card other moves : ℕ) → IsNode n
    → has_card (choices n) card ≡ true → TellsNoMore n other card
    → IsWonThroughout bridge (child n other) moves → IsWonThroughout bridge (child n card) moves
