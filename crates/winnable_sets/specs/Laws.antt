-- The laws of winnable sets and cores, for any game whose rules hold at sound nodes.
use Rattle.std.specs.Prelude.{◌≡◌, ◌↔◌, ◌+◌, ◌≤◌, ◌<◌, ℕ, suc, true, false, List, length, replicate, Contains}
use Rattle.win_vectors.specs.Vectors.{ones_of, restrict_of}
use Rattle.win_vectors.specs.Fronts.{Vector, Dominates, Covers}
use Rattle.strategy_games.specs.Games.{Game, mask}
use Rattle.strategy_games.specs.Plans.{stops, IsFront}
use Rattle.strategy_games.specs.Choosing.{IsBestBy}
use Rattle.assured_games.specs.Made.{results}
use Rattle.winnable_sets.specs.Sets.{IsWinnable, IsCore}

module _ {N S C : Type 0} (g : Game N S C) (Sound : N → Type 0) where
  -- the set at a node, and its part after each card
  pub record HasTurns : Type 0 where
    -- Where plans stop, a set is winnable if double dummy makes each of its layouts.
    pub at_stop : (n : N) (m : ℕ) (set : Vector) → stops g n m ≡ true
        → IsWinnable g n m set ↔ Dominates (results g n) set
    -- At declarer's turn it is winnable if it is after some card, with a move less;
    pub at_declarer : (n : N) (m : ℕ) (set : Vector) → Sound n → g.is_decided n ≡ false
        → g.is_ours n ≡ true → IsWinnable g n (suc m) set
        ↔ ((c : C) × Contains (g.choices n) c × IsWinnable g (g.child n c) m set)
    -- and at a defender's if after each card the layouts in which that card is legal are.
    pub at_defender : (n : N) (m : ℕ) (set : Vector) → Sound n → g.is_decided n ≡ false
        → g.is_ours n ≡ false → length set ≡ length (g.states n) → IsWinnable g n (suc m) set
        ↔ ((c : C) → Contains (g.choices n) c
        → IsWinnable g (g.child n c) (suc m) (restrict_of set (mask g n c)))

  -- what makes a core
  pub record HasCores : Type 0 where
    -- At declarer's turn a set is a core if it contains one after each card,
    pub at_declarer : (n : N) (m : ℕ) (set : Vector) → Sound n → g.is_decided n ≡ false
        → g.is_ours n ≡ true → length set ≡ length (g.states n)
        → ((c : C) → Contains (g.choices n) c
        → (core : Vector) × IsCore g (g.child n c) m core × Dominates set core)
        → IsCore g n (suc m) set
    -- and at a defender's if the layouts in which some card is legal are one after that card.
    pub at_defender : (n : N) (m : ℕ) (set : Vector) (c : C) → Sound n → g.is_decided n ≡ false
        → g.is_ours n ≡ false → length set ≡ length (g.states n) → Contains (g.choices n) c
        → IsCore g (g.child n c) (suc m) (restrict_of set (mask g n c)) → IsCore g n (suc m) set
    -- A set that contains a core is one,
    pub larger : (n : N) (m : ℕ) (set core : Vector) → IsCore g n m core → Dominates set core
        → IsCore g n m set
    -- and so is one with a layout that double dummy loses.
    pub lost : (n : N) (m : ℕ) (set : Vector) → Sound n → length set ≡ length (g.states n)
        → (Dominates (results g n) set → ⊥) → IsCore g n m set

  -- what is winnable
  pub record HasSets : Type 0 where
    -- Each part of a winnable set is; no layout at all is.
    pub fewer : (n : N) (m : ℕ) (set part : Vector) → Dominates set part → IsWinnable g n m set
        → IsWinnable g n m part
    pub none : (n : N) (m : ℕ) → Sound n
        → IsWinnable g n m (replicate (length (g.states n)) false)
    -- Double dummy makes each layout of a winnable set, and if it makes a layout, that one is winnable.
    pub made : (n : N) (m : ℕ) (set : Vector) → Sound n → IsWinnable g n m set
        → Dominates (results g n) set
    pub one : (n : N) (m : ℕ) (set : Vector) → Sound n → ones_of set ≡ 1
        → Dominates (results g n) set → IsWinnable g n m set
    -- The sets that the front dominates are winnable, and no others.
    pub front : (n : N) (m : ℕ) (set : Vector) (f : List Vector) → IsFront g n m f
        → IsWinnable g n m set ↔ Covers f set
    -- With fewer moves no less is winnable, and with more moves than cards are left no more.
    pub fewer_moves : (n : N) (m extra : ℕ) (set : Vector) → Sound n
        → IsWinnable g n (m + extra) set → IsWinnable g n m set
    pub all_moves : (n : N) (m extra : ℕ) (set : Vector) → Sound n → g.cards_left n < m
        → IsWinnable g n m set → IsWinnable g n (m + extra) set

  -- a bracket round the best by a measure
  pub record HasSetBracket (measure : Vector → ℕ) : Type 0 where
    -- A winnable set measures no more than the best.
    pub low : (n : N) (m best : ℕ) (set : Vector) → IsBestBy g measure n m best
        → IsWinnable g n m set → measure set ≤ best
    -- If no set without one of these cores in it measures more than `most`, the best doesn't.
    pub high : (n : N) (m best most : ℕ) (cores : List Vector) → IsBestBy g measure n m best
        → ((core : Vector) → Contains cores core → IsCore g n m core)
        → ((set : Vector) → length set ≡ length (g.states n)
        → ((core : Vector) → Contains cores core → Dominates set core → ⊥) → measure set ≤ most)
        → best ≤ most
