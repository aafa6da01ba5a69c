-- Sets of layouts that one strategy wins together, and sets that none does.
use Rattle.std.specs.Prelude.{◌≡◌, ℕ, true, length, replicate}
use Rattle.win_vectors.specs.Fronts.{Vector, Dominates}
use Rattle.strategy_games.specs.Games.{Game}
use Rattle.strategy_games.specs.Plans.{Plan, Fits, wins_vector}

module _ {N S C : Type 0} (g : Game N S C) where
  -- The set, a vector with a 1 at each of its layouts, is winnable: one strategy with m moves wins them all.
  abbrev pub IsWinnable : N → ℕ → Vector → Type 0
  IsWinnable n m set = (p : Plan C) × Fits g p n m × Dominates (wins_vector g p n) set

  -- The set is a core: each strategy loses one of its layouts.
  pub record IsCore (n : N) (m : ℕ) (set : Vector) : Type 0 where
    pub width : length set ≡ length (g.states n)
    pub lost : IsWinnable n m set → ⊥

  -- one strategy wins each layout of the node
  abbrev pub IsWonThroughout : N → ℕ → Type 0
  IsWonThroughout n m = IsWinnable n m (replicate (length (g.states n)) true)
