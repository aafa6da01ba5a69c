-- What double dummy says of the assured front of a node, for any game whose rules hold at sound nodes.
use Rattle.std.specs.Prelude.{◌≡◌, ℕ, Bool, true, List, [], ◌∷◌, length, map, Contains}
use Rattle.std.specs.List.{items_where_true}
use Rattle.win_vectors.specs.Vectors.{meet_of, spread_of}
use Rattle.win_vectors.specs.Fronts.{Vector, Dominates, IsReduced}
use Rattle.strategy_games.specs.Games.{Game}
use Rattle.assured_games.specs.Assured.{IsAssured, IsAssuredFront}

module _ {N S C : Type 0} (g : Game N S C) where
  -- double dummy's results at a node
  abbrev pub results : N → Vector
  results n = map (λ s. g.makes s) (g.states n)

  -- double dummy makes no layout of the node but this one
  abbrev pub MakesOnly : N → S → Type 0
  MakesOnly n t = Contains (g.states n) t
      × ((s : S) → Contains (g.states n) s → g.makes s ≡ true → t ≡ s)

  module _ (Sound : N → Type 0) (sure : N → Bool) where
    pub record IsWithinMade : Type 0 where
      -- What is assured double dummy makes.
      pub made : (n : N) (m : ℕ) (v : Vector) → Sound n → IsAssured g sure n m v
          → Dominates (results n) v
      -- Where it makes one layout at most, its results are the front.
      pub one_made : (n : N) (m : ℕ) (t : S) → Sound n → MakesOnly n t
          → IsAssuredFront g sure n m (results n ∷ [])

    -- Play keeps the relation R. Where it holds of two sound nodes, the first is the second with some layouts left out:
    pub record LeavesOut (R : N → N → Type 0) : Type 0 where
      -- its layouts are some of the second's, one at least,
      pub layouts : (k n : N) (s : S) → R k n → Contains (g.states k) s → Contains (g.states n) s
      pub some_layout : (k : N) → Sound k → (s : S) × Contains (g.states k) s
      -- what is legal in one of them is a choice,
      pub choice : (n : N) (c : C) (s : S) → Sound n → Contains (g.states n) s
          → g.is_legal c s ≡ true → Contains (g.choices n) c
      -- the rest is the same,
      pub turn : (k n : N) → R k n → g.is_ours k ≡ g.is_ours n
      pub decided : (k n : N) → R k n → g.is_decided k ≡ g.is_decided n
      pub is_sure : (k n : N) → R k n → sure k ≡ sure n
      -- and after each card too.
      pub child : (k n : N) (c : C) → R k n → R (g.child k c) (g.child n c)

    -- If only layouts are left out that double dummy loses, the front of the node is that of the rest, with 0 at the
    -- layouts that are left out.
    abbrev pub LostMayBeLeftOut : (N → N → Type 0) → Type 0
    LostMayBeLeftOut R = (k n : N) (m : ℕ) (kept : Vector) (part front : List Vector)
        → Sound k → Sound n → R k n → length kept ≡ length (g.states n)
        → g.states k ≡ items_where_true kept (g.states n) → Dominates kept (results n)
        → IsAssuredFront g sure k m part → IsReduced (map (λ v. meet_of (spread_of v kept) kept) part) front
        → IsAssuredFront g sure n m front
