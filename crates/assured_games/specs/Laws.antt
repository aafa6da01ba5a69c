-- The laws of assured vectors, for any game whose rules hold at sound nodes.
use Rattle.std.specs.Prelude.{◌≡◌, ◌↔◌, ◌+◌, ◌≤◌, ◌<◌, ℕ, Bool, true, false, List, length, replicate, Contains}
use Rattle.win_vectors.specs.Fronts.{Vector, Covers}
use Rattle.strategy_games.specs.Games.{Game}
use Rattle.strategy_games.specs.Plans.{CanWin, IsFront}
use Rattle.strategy_games.specs.Choosing.{IsBestBy}
use Rattle.assured_games.specs.Assured.{IsAssured, IsAssuredFront, IsLeastBy}

module _ {N S C : Type 0} (g : Game N S C) (Sound : N → Type 0) where
  -- double dummy makes nothing that play doesn't
  pub record IsPlayedOut : Type 0 where
    -- what declarer's side makes it makes by one of its cards,
    pub ours : (n : N) (s : S) → Sound n → Contains (g.states n) s → g.is_decided n ≡ false
        → g.is_ours n ≡ true → g.makes s ≡ true
        → (c : C) × Contains (g.choices n) c × (g.makes (g.after c s) ≡ true)
    -- and against the defenders by each card that is legal for them.
    pub theirs : (n : N) (s : S) (c : C) → Sound n → Contains (g.states n) s
        → g.is_decided n ≡ false → g.is_ours n ≡ false → g.makes s ≡ true
        → Contains (g.choices n) c → g.is_legal c s ≡ true → g.makes (g.after c s) ≡ true

  module _ (sure : N → Bool) where
    -- at a sure node some strategy wins all layouts, with every number of moves
    abbrev pub IsSureOfAll : Type 0
    IsSureOfAll = (n : N) (m : ℕ) → Sound n → sure n ≡ true
        → CanWin g n m (replicate (length (g.states n)) true)

    -- what is assured with m moves is won with every number of moves from m on
    pub record IsBracketed : Type 0 where
      -- a vector that is assured is assured with more moves too,
      pub rises : (n : N) (m extra : ℕ) (v : Vector) → Sound n → IsAssured g sure n m v
          → IsAssured g sure n (m + extra) v
      -- and a vector of the front dominates it, also of the front with more moves.
      pub won : (n : N) (m extra : ℕ) (v : Vector) (front : List Vector) → Sound n
          → IsAssured g sure n m v → IsFront g n (m + extra) front → Covers front v
      -- With more moves than cards are left the two fronts are one.
      pub all_planned : (n : N) (m : ℕ) (front : List Vector) → Sound n → g.cards_left n < m
          → IsAssuredFront g sure n m front ↔ IsFront g n m front

    -- the same by a measure of vectors: the bracket round the best with every number of moves more
    pub record HasBracket (measure : Vector → ℕ) : Type 0 where
      -- Least never falls as moves are added,
      pub rises : (n : N) (m extra least later : ℕ) → Sound n → IsLeastBy g sure measure n m least
          → IsLeastBy g sure measure n (m + extra) later → least ≤ later
      -- and the best with more moves lies between least and most.
      pub low : (n : N) (m extra least best : ℕ) → Sound n → IsLeastBy g sure measure n m least
          → IsBestBy g measure n (m + extra) best → least ≤ best
      pub high : (n : N) (m extra best most : ℕ) → Sound n → IsBestBy g measure n (m + extra) best
          → IsBestBy g measure n m most → best ≤ most
      -- Where the two meet, the answer is final.
      pub final : (n : N) (m extra b : ℕ) → Sound n → IsLeastBy g sure measure n m b
          → IsBestBy g measure n m b → IsBestBy g measure n (m + extra) b
      -- With more moves than cards are left they meet.
      pub meet : (n : N) (m b : ℕ) → Sound n → g.cards_left n < m
          → IsLeastBy g sure measure n m b ↔ IsBestBy g measure n m b
