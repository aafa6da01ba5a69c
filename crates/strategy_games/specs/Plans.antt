-- Declarer's strategies, what they win against every defence, and the front of a node.
use Rattle.std.specs.Prelude.{◌≡◌, ◌+◌, sum_by, ℕ, zero, suc, Bool, true, false, ⊤, List, [], ◌∷◌, ◌++◌, map, Contains, if◌then◌else◌}
use Rattle.std.specs.List.{list_all}
use Rattle.win_vectors.specs.Fronts.{Vector, IsFrontOf, Covers}
use Rattle.strategy_games.specs.Games.{Game}

mutual
  -- a strategy of declarer's side, which sees the played cards and no hidden one
  pub data Plan (C : Type 0) : Type 0 where
    Stop : Plan C
    Play : C → Plan C → Plan C
    Hear : Replies C → Plan C

  -- one plan for each card that a defender may play
  pub data Replies (C : Type 0) : Type 0 where
    NoReply : Replies C
    Reply : C → Plan C → Replies C → Replies C

-- the cards that are replied to
abbrev pub cards_of : {C : Type 0} → Replies C → List C
cards_of NoReply = []
cards_of (Reply c q rs) = c ∷ cards_of rs

module _ {N S C : Type 0} (g : Game N S C) where
  -- no moves are left, or the result is decided
  abbrev pub stops : N → ℕ → Bool
  stops n zero = true
  stops n (suc m) = g.is_decided n

  abbrev mutual
    -- the plan is a strategy at node n with m moves of declarer's side
    pub Fits : Plan C → N → ℕ → Type 0
    Fits Stop n m = stops n m ≡ true
    Fits (Play c q) n zero = ⊥
    Fits (Play c q) n (suc m) = (g.is_decided n ≡ false) × (g.is_ours n ≡ true) × Contains (g.choices n) c × Fits q (g.child n c) m
    Fits (Hear rs) n m = (stops n m ≡ false) × (g.is_ours n ≡ false) × (cards_of rs ≡ g.choices n) × FitEach rs n m

    -- each reply's plan is a strategy after its card
    pub FitEach : Replies C → N → ℕ → Type 0
    FitEach NoReply n m = ⊤
    FitEach (Reply c q rs) n m = Fits q (g.child n c) m × FitEach rs n m

  abbrev mutual
    -- the states that play may come to in this layout, when the defenders know layout and plan
    pub ends : Plan C → S → List S
    ends Stop s = s ∷ []
    ends (Play c q) s = ends q (g.after c s)
    ends (Hear rs) s = ends_each rs s

    pub ends_each : Replies C → S → List S
    ends_each NoReply s = []
    ends_each (Reply c q rs) s = (if g.is_legal c s then ends q (g.after c s) else []) ++ ends_each rs s

  -- is the contract made in this layout, whatever the defenders do?
  abbrev pub wins : Plan C → S → Bool
  wins p s = list_all (λ e. g.makes e) (ends p s)

  -- the layouts of the node that the plan wins
  abbrev pub wins_vector : Plan C → N → Vector
  wins_vector p n = map (λ s. wins p s) (g.states n)

  abbrev mutual
    -- the plan stops only if the result is decided
    pub IsComplete : Plan C → N → Type 0
    IsComplete Stop n = g.is_decided n ≡ true
    IsComplete (Play c q) n = IsComplete q (g.child n c)
    IsComplete (Hear rs) n = AreComplete rs n

    -- so does each reply's plan
    pub AreComplete : Replies C → N → Type 0
    AreComplete NoReply n = ⊤
    AreComplete (Reply c q rs) n = IsComplete q (g.child n c) × AreComplete rs n

  -- some strategy with m moves wins exactly this vector
  abbrev pub CanWin : N → ℕ → Vector → Type 0
  CanWin n m v = (p : Plan C) × Fits p n m × (wins_vector p n ≡ v)

  -- the front of node n with m moves
  abbrev pub IsFront : N → ℕ → List Vector → Type 0
  IsFront n m front = IsFrontOf (CanWin n m) front

  -- no strategy wins a vector that this list of vectors doesn't dominate
  abbrev pub IsBelow : N → ℕ → List Vector → Type 0
  IsBelow n m alpha = (p : Plan C) → Fits p n m → Covers alpha (wins_vector p n)

  -- the size of the tree below a node with at most k cards left
  abbrev pub size_within : ℕ → N → ℕ → ℕ
  size_within zero n m = 1
  size_within (suc k) n zero = 1
  size_within (suc k) n (suc m) = if g.is_decided n then 1 else (if g.is_ours n then 1 + sum_by (λ c. size_within k (g.child n c) m) (g.choices n) else 1 + sum_by (λ c. size_within k (g.child n c) (suc m)) (g.choices n))

  -- how many nodes a search enters: one if it stops, otherwise one and those of each child
  abbrev pub tree_size : N → ℕ → ℕ
  tree_size n m = size_within (g.cards_left n) n m
