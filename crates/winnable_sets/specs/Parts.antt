-- A node without some of its layouts: what is winnable there, for any game whose rules hold at sound nodes.
use Rattle.std.specs.Prelude.{◌≡◌, ◌↔◌, ℕ, false, length}
use Rattle.std.specs.List.{items_where_true}
use Rattle.win_vectors.specs.Fronts.{Vector}
use Rattle.strategy_games.specs.Games.{Game}
use Rattle.assured_games.specs.Made.{LeavesOut}
use Rattle.winnable_sets.specs.Sets.{IsWinnable, IsWonThroughout}

module _ {N S C : Type 0} (g : Game N S C) (Sound : N → Type 0) where
  -- Play keeps the relation R; where it holds, the first node is the second with some layouts left out.
  abbrev pub AreParts : (N → N → Type 0) → Type 0
  AreParts R = LeavesOut g Sound (λ n. false) R

  pub record HasParts (R : N → N → Type 0) : Type 0 where
    -- If one strategy wins each layout of a node, one does if there are fewer.
    pub fewer : (k n : N) (m : ℕ) → Sound k → Sound n → R k n → IsWonThroughout g n m
        → IsWonThroughout g k m
    -- The layouts that are kept are winnable exactly if one strategy wins them all where there are no others.
    pub kept : (k n : N) (m : ℕ) (set : Vector) → Sound k → Sound n → R k n
        → length set ≡ length (g.states n) → g.states k ≡ items_where_true set (g.states n)
        → IsWonThroughout g k m ↔ IsWinnable g n m set
