-- A strategy of a node in the layout of a place.
use Rattle.std.proofs.Common.{◌≡◌, ◌∙◌, ℕ, Some, List, slice_get, sym, subst}
use Rattle.trick_rules.specs.Positions.{PositionValue, State}
use Rattle.trick_rules.specs.Nodes.{NodeValue, IsNode, states}
use Rattle.strategy_games.specs.Plans.{Plan, Fits}
use Rattle.strategy_tree.specs.Bridge.{bridge}
use Rattle.strategy_check.specs.Following.{CanFollow}
use Rattle.strategy_check.proofs.Compared.{follow_from}
use Rattle.am_match.proofs.UnderWay.{state_at_place}

module _ (plan : Plan ℕ) (n : NodeValue) (place : ℕ) (position : PositionValue) (left : List ℕ) (is_position : position ≡ n.position) (is_left : slice_get n.lefts place ≡ Some left) where
  -- it can be followed there
  pub followed_at : IsNode n → ((moves : ℕ) × Fits bridge plan n moves) → CanFollow plan (record { position = position; left = left })
  followed_at sound fits =
      subst (λ (t : PositionValue). CanFollow plan (record { position = t; left = left })) (sym is_position) (follow_from plan n fits.0 place left sound fits.1 is_left)

  -- what is so of it there is so in that layout
  pub so_at : (Is : State → Type 0) (s : State) → slice_get (states n) place ≡ Some s → Is (record { position = position; left = left }) → Is s
  so_at Is s at_layout is =
      subst Is (state_at_place n place left s is_left at_layout)
      (subst (λ (t : PositionValue). Is (record { position = t; left = left })) is_position is)
