-- A card that the cards before it cover is covered by the front of these cards; and where some cards are enough.
use Rattle.std.proofs.Common.{◌-◌, ℕ, List, Contains, refl}
use Rattle.win_vectors.specs.Fronts.{Vector, CoversAll, IsFrontOf}
use Rattle.trick_rules.specs.Nodes.{NodeValue, child}
use Rattle.strategy_games.specs.Plans.{IsBelow, IsFront, wins_vector}
use Rattle.strategy_games.specs.Joins.{WinsByCard}
use Rattle.strategy_games.proofs.Vectors.{Dominates-trans}
use Rattle.strategy_tree.specs.Bridge.{bridge}
use Rattle.root_workers.specs.Roots.{IsCoveredBefore, AreEnough}

module _ (n : NodeValue) (moves : ℕ) where
  -- what a search cuts off by vectors that earlier cards win, the earlier cards cover
  pub covered_before : (earlier : List ℕ) (card : ℕ) (alpha : List Vector) → ((v : Vector) → Contains alpha v → WinsByCard bridge n (moves - 1) earlier v)
      → IsBelow bridge (child n card) (moves - 1) alpha → IsCoveredBefore n moves earlier card
  covered_before earlier card alpha won below p fits =
      let above = below p fits in
      (above.0, won above.0 above.1, above.2)

  -- and what they cover, their front covers
  pub below_front : (earlier : List ℕ) (card : ℕ) (front : List Vector) → IsFrontOf (WinsByCard bridge n (moves - 1) earlier) front
      → IsCoveredBefore n moves earlier card → IsBelow bridge (child n card) (moves - 1) front
  below_front earlier card front is covered p fits =
      let by = covered p fits in
      let above = is.covered by.0 by.1 in
      (above.0, above.1, Dominates-trans above.0 by.0 _ above.2 by.2)

  -- cards whose front covers the front with a move less are enough
  pub enough_by_front : (cards : List ℕ) (front less : List Vector) → IsFrontOf (WinsByCard bridge n (moves - 1) cards) front
      → CoversAll front less → IsFront bridge n (moves - 1) less → AreEnough n moves cards
  enough_by_front cards front less is covers is_less p fits =
      let by = is_less.covered (wins_vector bridge p n) (p, fits, refl) in
      let above = covers by.0 by.1 in
      (above.0, is.reached above.0 above.1, Dominates-trans above.0 by.0 _ above.2 by.2)
