-- What a search rests on beside its cuts, for any game whose rules hold at sound nodes.
use Rattle.std.specs.Prelude.{◌≡◌, ◌⊎◌, ◌↔◌, ◌+◌, ◌≤◌, ◌<◌, ℕ, suc, true, false, List, [], ◌∷◌, ◌++◌, length, Contains}
use Rattle.win_vectors.specs.Fronts.{Vector, Dominates, Covers, CoversAll, IsFrontOf, spreads}
use Rattle.strategy_games.specs.Games.{Game, mask}
use Rattle.strategy_games.specs.Plans.{Plan, Fits, wins_vector, IsComplete, IsFront, IsBelow}
use Rattle.strategy_games.specs.Joins.{WinsByCard, WinsByReply}
use Rattle.strategy_games.specs.Choosing.{Keeps, IsChosenPlan, IsBestBy, IsNamedBy, IsLeader, misses}

module _ {N S C : Type 0} (g : Game N S C) (Sound : N → Type 0) where
  -- some of a node's choices are enough
  pub record HasEnoughCards : Type 0 where
    -- At a defender one reply is enough for a cut: what its child can't win, spread, the node can't.
    pub one_reply : (n : N) (m : ℕ) (c : C) (beta alpha : List Vector) → Sound n
        → g.is_decided n ≡ false → g.is_ours n ≡ false → Contains (g.choices n) c
        → IsBelow g (g.child n c) (suc m) beta → CoversAll alpha (spreads (mask g n c) beta)
        → IsBelow g n (suc m) alpha
    -- The front over some cards of declarer's side is the front if it covers what each other wins,
    pub cards : (n : N) (m : ℕ) (cs : List C) (f : List Vector) → Sound n
        → g.is_over n ≡ false → g.is_ours n ≡ true
        → ((c : C) → Contains cs c → Contains (g.choices n) c)
        → ((c : C) → Contains (g.choices n) c → Contains cs c ⊎ IsBelow g (g.child n c) m f)
        → IsFrontOf (WinsByCard g n m cs) f → IsFront g n (suc m) f
    -- and also if each choice has one among them whose child's front covers what its own child wins.
    pub covering_cards : (n : N) (m : ℕ) (cs : List C) (f : List Vector) → Sound n
        → g.is_over n ≡ false → g.is_ours n ≡ true
        → ((c : C) → Contains cs c → Contains (g.choices n) c)
        → ((c : C) → Contains (g.choices n) c → (d : C) × Contains cs d
        × ((h : List Vector) → IsFront g (g.child n d) m h → IsBelow g (g.child n c) m h))
        → IsFrontOf (WinsByCard g n m cs) f → IsFront g n (suc m) f
    -- The front over some of a defender's cards is the front if each choice has one among them that is legal in the
    -- same layouts and whose child has the same front.
    pub equal_replies : (n : N) (m : ℕ) (cs : List C) (f : List Vector) → Sound n
        → g.is_over n ≡ false → g.is_ours n ≡ false
        → ((c : C) → Contains cs c → Contains (g.choices n) c)
        → ((c : C) → Contains (g.choices n) c → (d : C) × Contains cs d
        × (mask g n c ≡ mask g n d)
        × ((h : List Vector) → IsFront g (g.child n d) (suc m) h → IsFront g (g.child n c) (suc m) h))
        → IsFrontOf (WinsByReply g n (suc m) cs) f → IsFront g n (suc m) f
    -- the same of declarer's side
    pub equal_cards : (n : N) (m : ℕ) (cs : List C) (f : List Vector) → Sound n
        → g.is_over n ≡ false → g.is_ours n ≡ true
        → ((c : C) → Contains cs c → Contains (g.choices n) c)
        → ((c : C) → Contains (g.choices n) c → (d : C) × Contains cs d
        × ((h : List Vector) → IsFront g (g.child n d) m h → IsFront g (g.child n c) m h))
        → IsFrontOf (WinsByCard g n m cs) f → IsFront g n (suc m) f

  -- how a loop over the cards of declarer's side finds the best by a measure and the card named
  pub record HasLeaders (measure : Vector → ℕ) : Type 0 where
    -- the first card leads,
    pub first : (n : N) (m b : ℕ) (c : C) → IsBestBy g measure (g.child n c) m b
        → IsLeader g measure n m (c ∷ []) b c
    -- a better one takes the lead,
    pub better : (n : N) (m b k : ℕ) (cs : List C) (c d : C) → IsLeader g measure n m cs b c
        → IsBestBy g measure (g.child n d) m k → b < k → IsLeader g measure n m (cs ++ d ∷ []) k d
    -- one that is no better doesn't,
    pub no_better : (n : N) (m b k : ℕ) (cs : List C) (c d : C) → IsLeader g measure n m cs b c
        → IsBestBy g measure (g.child n d) m k → k ≤ b → IsLeader g measure n m (cs ++ d ∷ []) b c
    -- nor does one whose child is covered by the front over the earlier cards.
    pub covered : (n : N) (m b : ℕ) (cs : List C) (c d : C) (f : List Vector) → Sound n
        → ((e : C) → Contains cs e → Contains (g.choices n) e) → IsLeader g measure n m cs b c
        → IsFrontOf (WinsByCard g n m cs) f → IsBelow g (g.child n d) m f
        → IsLeader g measure n m (cs ++ d ∷ []) b c
    -- In the end the leader has the best and is named.
    pub all : (n : N) (m b : ℕ) (c : C) → Sound n → g.is_over n ≡ false → g.is_ours n ≡ true
        → IsLeader g measure n m (g.choices n) b c
        → IsBestBy g measure n (suc m) b × IsNamedBy g measure n (suc m) c
    -- The same holds as soon as the front over the cards so far covers the front with a move less,
    pub same_front : (n : N) (m b : ℕ) (cs later : List C) (c : C) (f less : List Vector)
        → Sound n → g.is_over n ≡ false → g.is_ours n ≡ true → g.choices n ≡ cs ++ later
        → IsLeader g measure n m cs b c → IsFrontOf (WinsByCard g n m cs) f
        → IsFront g n m less → CoversAll f less
        → IsBestBy g measure n (suc m) b × IsNamedBy g measure n (suc m) c
    -- or its measure is the best with a move less.
    pub same_best : (n : N) (m b less : ℕ) (cs later : List C) (c : C)
        → Sound n → g.is_over n ≡ false → g.is_ours n ≡ true → g.choices n ≡ cs ++ later
        → IsLeader g measure n m cs b c → IsBestBy g measure n m less → less ≤ b
        → IsBestBy g measure n (suc m) b × IsNamedBy g measure n (suc m) c
    -- A card whose child is covered by the front over the earlier cards isn't named.
    pub not_named : (n : N) (m : ℕ) (cs later : List C) (d : C) (f : List Vector)
        → Sound n → g.is_ours n ≡ true → g.choices n ≡ cs ++ d ∷ later → (Contains cs d → ⊥)
        → IsFrontOf (WinsByCard g n m cs) f → IsBelow g (g.child n d) m f
        → IsNamedBy g measure n (suc m) d → ⊥

  -- the vectors that miss a 1 of u tell whether u is kept
  pub record HasMisses : Type 0 where
    -- a vector dominates u exactly when none of them dominates it,
    pub tell : (u v : Vector) → length v ≡ length u
        → Dominates v u ↔ (Covers (misses u) v → ⊥)
    -- so that they cover what a child wins exactly when its card doesn't keep u.
    pub below : (n : N) (m : ℕ) (c : C) (u : Vector) → Sound (g.child n c)
        → length (g.states (g.child n c)) ≡ length u
        → IsBelow g (g.child n c) m (misses u) ↔ (Keeps g n m u c → ⊥)

  -- where plans that end with the result decided win a front, more moves don't change it
  pub record HasExactness : Type 0 where
    pub complete : (n : N) (m extra : ℕ) (f : List Vector) → Sound n → IsFront g n m f
        → ((v : Vector) → Contains f v
        → (p : Plan C) × Fits g p n m × IsComplete g p n × (wins_vector g p n ≡ v))
        → IsFront g n (m + extra) f
    -- for example if the chosen plans are such
    pub chosen : (n : N) (m extra : ℕ) (f : List Vector) → Sound n → IsFront g n m f
        → ((v : Vector) (p : Plan C) → Contains f v → IsChosenPlan g p n m v → IsComplete g p n)
        → IsFront g n (m + extra) f
