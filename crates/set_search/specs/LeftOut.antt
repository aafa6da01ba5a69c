-- Cards that are left out for a neighbour.
use Rattle.std.specs.Prelude.{◌≡◌, ◌<◌, ◌⊎◌, ℕ, true, false, List, [], get_or}
use Rattle.card_sets.specs.SetWords.{has_card}
use Rattle.win_vectors.specs.Fronts.{Vector, Dominates}
use Rattle.trick_rules.specs.Positions.{PositionValue}
use Rattle.trick_rules.specs.Nodes.{IsNode, child}
use Rattle.strategy_tree.specs.Bridge.{bridge}
use Rattle.winnable_sets.specs.Sets.{IsWonThroughout}
use Rattle.set_nodes.specs.Neighbours.{AreNeighbours}
use Rattle.set_search.specs.Open.{own_legal}

-- whatever layouts there are, what is won throughout after the card is won throughout after the other one
abbrev pub IsNoBetter : PositionValue → ℕ → ℕ → Type 0
IsNoBetter t card other = (lefts : List (List ℕ)) (moves : ℕ)
    → IsNode (record { position = t; lefts = lefts })
    → IsWonThroughout bridge (child (record { position = t; lefts = lefts }) card) moves
    → IsWonThroughout bridge (child (record { position = t; lefts = lefts }) other) moves

-- some legal cards of declarer's side, at his turn; no other one is better than each of them
pub record AreEnough (t : PositionValue) (cards : List ℕ) : Type 0 where
  pub legal : (card : ℕ) → has_card cards card ≡ true → has_card (own_legal t) card ≡ true
  pub each : (card : ℕ) → has_card (own_legal t) card ≡ true
      → (kept : ℕ) × (has_card cards kept ≡ true) × IsNoBetter t card kept

-- by the layouts in which each card is legal: a card that isn't left to be tried is legal in each layout of a set
pub record IsAnswered (legal : List Vector) (set : Vector) (left : List ℕ) (card : ℕ) : Type 0 where
  pub a_card : card < 52
  pub done : has_card left card ≡ false
  pub wherever : Dominates (get_or legal card []) set

-- a neighbour of a card is so in the layouts in which the card is legal
pub record IsAnsweredBy (t : PositionValue) (legal : List Vector) (left : List ℕ) (card other : ℕ) : Type 0 where
  pub near : AreNeighbours t card other ⊎ AreNeighbours t other card
  pub answered : IsAnswered legal (get_or legal card []) left other
