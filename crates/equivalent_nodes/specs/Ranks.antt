-- Relative ranks of a node: between two tricks the cards in play stand at the highest places of their suits.
use Rattle.std.specs.Prelude.{◌≡◌, ◌↔◌, ℕ, not, ◌==◌, if◌then◌else◌, List, [], ◌∷◌, length, map}
use Rattle.card_sets.specs.SetWords.{cards_where}
use Rattle.card_sets.specs.Raised.{with_raised}
use Rattle.win_vectors.specs.Fronts.{Vector}
use Rattle.trick_rules.specs.Positions.{PositionValue}
use Rattle.trick_rules.specs.Nodes.{NodeValue}
use Rattle.double_dummy.specs.Equals.{in_play}
use Rattle.strategy_games.specs.Plans.{IsFront}
use Rattle.strategy_tree.specs.Bridge.{bridge}

-- the places at which no card is in play, the lowest first
abbrev pub gaps_of : PositionValue → List ℕ
gaps_of t = cards_where (λ place. not (in_play t place))

-- a set after these gaps are closed, one after the other: each card of a gap's suit below it goes up one place
abbrev pub with_gaps_closed : List ℕ → List ℕ → List ℕ
with_gaps_closed [] cards = cards
with_gaps_closed (gap ∷ gaps) cards = with_gaps_closed gaps (with_raised gap cards)

-- the same in each hand of a position
abbrev pub with_gaps_closed_in : List ℕ → PositionValue → PositionValue
with_gaps_closed_in gaps t = record t {
  declarer = with_gaps_closed gaps t.declarer;
  dummy = with_gaps_closed gaps t.dummy;
  unseen = with_gaps_closed gaps t.unseen;
}

-- and in each layout of a node
abbrev pub with_gaps_closed_at : List ℕ → NodeValue → NodeValue
with_gaps_closed_at gaps n = record {
  position = with_gaps_closed_in gaps n.position;
  lefts = map (with_gaps_closed gaps) n.lefts;
}

-- a node with all gaps closed between two tricks; the node itself while a trick is under way
abbrev pub in_relative_ranks : NodeValue → NodeValue
in_relative_ranks n =
    if length n.position.trick.cards == 0 then with_gaps_closed_at (gaps_of n.position) n else n

-- two nodes with as many layouts, and with one front for each number of moves
pub record AreEquivalent (n p : NodeValue) : Type 0 where
  pub layouts : length n.lefts ≡ length p.lefts
  pub one_front : (moves : ℕ) (front : List Vector)
      → IsFront bridge n moves front ↔ IsFront bridge p moves front
