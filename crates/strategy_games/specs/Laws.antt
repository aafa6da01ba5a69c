-- The laws of strategies and fronts, for any game whose rules hold at sound nodes.
use Rattle.std.specs.Prelude.{◌≡◌, ◌⊎◌, ◌↔◌, ◌+◌, ◌<◌, ◌≤◌, ℕ, suc, Bool, true, false, List, [], ◌∷◌, ◌++◌, map, replicate, length, Contains, None, Some, sum, sum_by}
use Rattle.win_vectors.specs.Vectors.{ones_of, restrict_of}
use Rattle.win_vectors.specs.Fronts.{Vector, HaveWidth, Covers, CoversAll, IsFrontOf, IsFirstAbove, IsReduced, meets, spreads}
use Rattle.win_vectors.specs.Weights.{weight_of, IsMonotone}
use Rattle.strategy_games.specs.Games.{Game, mask}
use Rattle.strategy_games.specs.Plans.{Plan, Play, stops, Fits, ends, wins_vector, IsFront, IsBelow, tree_size}
use Rattle.strategy_games.specs.Joins.{unions, joins, AreFronts, WinsByCard, WinsByReply}
use Rattle.strategy_games.specs.Choosing.{Keeps, IsChosenPlan, IsBestBy, IsNamedBy}
use Rattle.strategy_games.specs.Choosing.{IsBestCount, IsNamedCard, IsBestWeight, IsNamedByWeight}
use Rattle.strategy_games.specs.Misfits.{node_count, first_misfit}

module _ {N S C : Type 0} (g : Game N S C) (Sound : N → Type 0) where
  -- each strategy ends somewhere in each layout of its node
  abbrev pub EndsSomewhere : Type 0
  EndsSomewhere = (p : Plan C) (n : N) (m : ℕ) (s : S) → Sound n → Fits g p n m → Contains (g.states n) s → ends g p s ≡ [] → ⊥

  -- each node has exactly one front; it has a vector, and each of its vectors has a bit for each layout
  pub record HasOneFront : Type 0 where
    pub exists : (n : N) (m : ℕ) → Sound n → (f : List Vector) × IsFront g n m f
    pub unique : (n : N) (m : ℕ) (f h : List Vector) → IsFront g n m f → IsFront g n m h → f ≡ h
    pub filled : (n : N) (m : ℕ) (f : List Vector) → Sound n → IsFront g n m f → f ≡ [] → ⊥
    pub wide : (n : N) (m : ℕ) (f : List Vector) → IsFront g n m f → HaveWidth (length (g.states n)) f

  -- the recursion on fronts
  pub record HasRecursion : Type 0 where
    -- if the plan stops: double dummy's results
    pub at_stop : (n : N) (m : ℕ) → stops g n m ≡ true → IsFront g n m (map (λ s. g.makes s) (g.states n) ∷ [])
    -- at declarer's side: the best vectors of the children's fronts with a move less
    pub at_declarer : (n : N) (m : ℕ) (fs : List (List Vector)) (f : List Vector) → Sound n → g.is_over n ≡ false → g.is_ours n ≡ true
        → AreFronts g n m (g.choices n) fs → IsFront g n (suc m) f ↔ IsReduced (unions fs) f
    -- at a defender: the best of all meets of one spread vector of each child's front with the same moves
    pub at_defender : (n : N) (m : ℕ) (fs : List (List Vector)) (f : List Vector) → Sound n → g.is_over n ≡ false → g.is_ours n ≡ false
        → AreFronts g n (suc m) (g.choices n) fs → IsFront g n (suc m) f ↔ IsReduced (joins (length (g.states n)) (map (λ c. mask g n c) (g.choices n)) fs) f

  -- the same card by card, as a search goes
  pub record HasSteps : Type 0 where
    pub no_card : (n : N) (m : ℕ) → IsFrontOf (WinsByCard g n m []) []
    pub more_cards : (n : N) (m : ℕ) (cs : List C) (c : C) (f h union : List Vector)
        → IsFrontOf (WinsByCard g n m cs) f → IsFront g (g.child n c) m h → IsReduced (f ++ h) union → IsFrontOf (WinsByCard g n m (cs ++ c ∷ [])) union
    -- a card that the front so far covers adds nothing, and the order of the cards doesn't matter
    pub covered_card : (n : N) (m : ℕ) (cs : List C) (c : C) (f : List Vector) → IsFrontOf (WinsByCard g n m cs) f → IsBelow g (g.child n c) m f → IsFrontOf (WinsByCard g n m (cs ++ c ∷ [])) f
    pub any_order : (n : N) (m : ℕ) (cs ds : List C) (f : List Vector) → ((c : C) → Contains cs c ↔ Contains ds c) → IsFrontOf (WinsByCard g n m cs) f → IsFrontOf (WinsByCard g n m ds) f
    pub all_cards : (n : N) (m : ℕ) (f : List Vector) → Sound n → g.is_over n ≡ false → g.is_ours n ≡ true → IsFrontOf (WinsByCard g n m (g.choices n)) f → IsFront g n (suc m) f
    pub no_reply : (n : N) (m : ℕ) → IsFrontOf (WinsByReply g n m []) (replicate (length (g.states n)) true ∷ [])
    pub more_replies : (n : N) (m : ℕ) (cs : List C) (c : C) (f h join : List Vector) → Sound n → Contains (g.choices n) c
        → IsFrontOf (WinsByReply g n m cs) f → IsFront g (g.child n c) m h → IsReduced (meets f (spreads (mask g n c) h)) join → IsFrontOf (WinsByReply g n m (cs ++ c ∷ [])) join
    pub all_replies : (n : N) (m : ℕ) (f : List Vector) → Sound n → g.is_over n ≡ false → g.is_ours n ≡ false → IsFrontOf (WinsByReply g n (suc m) (g.choices n)) f → IsFront g n (suc m) f

  -- the best by a measure doesn't rise with a move more
  abbrev pub NeverRises : (Vector → ℕ) → Type 0
  NeverRises measure = (n : N) (m more less : ℕ) → Sound n
      → IsBestBy g measure n (suc m) more → IsBestBy g measure n m less → more ≤ less

  -- with a move more no new vector is won, and the best by a monotone measure doesn't rise
  pub record HasMoreMoves : Type 0 where
    pub vectors : (n : N) (m : ℕ) (more less : List Vector) → Sound n → IsFront g n (suc m) more → IsFront g n m less → CoversAll less more
    pub best : (measure : Vector → ℕ) → IsMonotone measure → NeverRises measure
    pub counts : NeverRises ones_of
    -- nor with any number of moves more
    pub fewer : (n : N) (m extra : ℕ) (more less : List Vector) → Sound n
        → IsFront g n (m + extra) more → IsFront g n m less → CoversAll less more
    pub fewer_best : (measure : Vector → ℕ) → IsMonotone measure
        → (n : N) (m extra more less : ℕ) → Sound n → IsBestBy g measure n (m + extra) more
        → IsBestBy g measure n m less → more ≤ less

  -- a vector that the front dominates has exactly one chosen plan; it is a strategy, and wins the first vector above the target
  pub record HasChosenPlan : Type 0 where
    pub exists : (n : N) (m : ℕ) (t : Vector) (f : List Vector) → Sound n → IsFront g n m f → Covers f t → (p : Plan C) × IsChosenPlan g p n m t
    pub unique : (p q : Plan C) (n : N) (m : ℕ) (t : Vector) → IsChosenPlan g p n m t → IsChosenPlan g q n m t → p ≡ q
    pub wins : (p : Plan C) (n : N) (m : ℕ) (t : Vector) (f : List Vector) → Sound n → IsFront g n m f → Covers f t → IsChosenPlan g p n m t → Fits g p n m × IsFirstAbove f t (wins_vector g p n)
    -- at declarer's side some card keeps each vector of the front, and at a defender each card keeps its part
    pub kept : (n : N) (m : ℕ) (u : Vector) (f : List Vector) → Sound n → g.is_decided n ≡ false → g.is_ours n ≡ true → IsFront g n (suc m) f → Contains f u → (c : C) × Contains (g.choices n) c × Keeps g n m u c
    pub part : (n : N) (m : ℕ) (u : Vector) (f h : List Vector) (c : C) → Sound n → g.is_decided n ≡ false → g.is_ours n ≡ false → IsFront g n (suc m) f → Contains f u
        → Contains (g.choices n) c → IsFront g (g.child n c) (suc m) h → Covers h (restrict_of u (mask g n c))

  -- the size of the tree, and how it changes
  pub record HasSizes : Type 0 where
    pub at_stop : (n : N) (m : ℕ) → stops g n m ≡ true → tree_size g n m ≡ 1
    pub at_declarer : (n : N) (m : ℕ) → Sound n → g.is_decided n ≡ false → g.is_ours n ≡ true → tree_size g n (suc m) ≡ 1 + sum_by (λ c. tree_size g (g.child n c) m) (g.choices n)
    pub at_defender : (n : N) (m : ℕ) → Sound n → g.is_decided n ≡ false → g.is_ours n ≡ false → tree_size g n (suc m) ≡ 1 + sum_by (λ c. tree_size g (g.child n c) (suc m)) (g.choices n)
    pub monotone : (n : N) (m : ℕ) → tree_size g n m ≤ tree_size g n (suc m)
    pub declarers_child : (n : N) (m : ℕ) (c : C) → Sound n → g.is_decided n ≡ false → g.is_ours n ≡ true → Contains (g.choices n) c → tree_size g (g.child n c) m < tree_size g n (suc m)
    pub defenders_child : (n : N) (m : ℕ) (c : C) → Sound n → g.is_decided n ≡ false → g.is_ours n ≡ false → Contains (g.choices n) c → tree_size g (g.child n c) (suc m) < tree_size g n (suc m)

  -- exactly one measure is the best: no strategy wins more
  pub record HasBestBy (measure : Vector → ℕ) : Type 0 where
    pub exists : (n : N) (m : ℕ) → Sound n → (b : ℕ) × IsBestBy g measure n m b
    pub unique : (n : N) (m b c : ℕ) → IsBestBy g measure n m b → IsBestBy g measure n m c → b ≡ c
    pub most : (n : N) (m b : ℕ) (p : Plan C) → IsBestBy g measure n m b → Fits g p n m
        → measure (wins_vector g p n) ≤ b
    -- what measures most of the front has it
    pub greatest : (n : N) (m : ℕ) (f : List Vector) (u : Vector) → IsFront g n m f → Contains f u
        → ((w : Vector) → Contains f w → measure w ≤ measure u) → IsBestBy g measure n m (measure u)
    -- if the result is decided: that of no layout, or of each
    pub decided : (n : N) (m b : ℕ) → Sound n → g.is_decided n ≡ true → IsBestBy g measure n m b
        → (b ≡ measure (replicate (length (g.states n)) false))
        ⊎ (b ≡ measure (replicate (length (g.states n)) true))

  -- exactly one card is named where declarer's side is to play
  pub record HasNamedBy (measure : Vector → ℕ) : Type 0 where
    pub exists : (n : N) (m : ℕ) → Sound n → g.is_over n ≡ false → g.is_ours n ≡ true
        → (c : C) × IsNamedBy g measure n (suc m) c
    pub unique : (n : N) (m : ℕ) (c d : C) → IsNamedBy g measure n (suc m) c
        → IsNamedBy g measure n (suc m) d → c ≡ d
    -- some strategy that begins with it wins the best measure
    pub wins : (n : N) (m : ℕ) (c : C) → Sound n → g.is_decided n ≡ false → g.is_ours n ≡ true
        → IsNamedBy g measure n (suc m) c → (q : Plan C) × (b : ℕ) × Fits g (Play c q) n (suc m)
        × IsBestBy g measure n (suc m) b × (measure (wins_vector g (Play c q) n) ≡ b)
    -- if the result is decided it is the first of the choices
    pub decided : (n : N) (m : ℕ) (c : C) (rest : List C) → Sound n → g.is_decided n ≡ true
        → g.is_ours n ≡ true → g.choices n ≡ c ∷ rest → IsNamedBy g measure n (suc m) c

  -- by the count of ones: the first vector of the front has the best count
  pub record HasBestCount : Type 0 where
    pub by_ones : HasBestBy ones_of
    pub open by_ones use {exists, unique, most}
    pub first : (n : N) (m : ℕ) (v : Vector) (rest : List Vector) → IsFront g n m (v ∷ rest)
        → IsBestCount g n m (ones_of v)
    -- if the result is decided: no layout, or each
    pub decided : (n : N) (m b : ℕ) → Sound n → g.is_decided n ≡ true → IsBestCount g n m b
        → (b ≡ 0) ⊎ (b ≡ length (g.states n))

  -- the card that is named by the count of ones
  abbrev pub HasNamedCard : Type 0
  HasNamedCard = HasNamedBy ones_of

  -- by weights
  pub record HasBestWeight : Type 0 where
    pub best : (ws : List ℕ) → HasBestBy (weight_of ws)
    pub named : (ws : List ℕ) → HasNamedBy (weight_of ws)
    -- if the result is decided: nothing, or the sum of the weights
    pub decided : (ws : List ℕ) (n : N) (m b : ℕ) → Sound n → g.is_decided n ≡ true
        → length ws ≡ length (g.states n) → IsBestWeight g ws n m b → (b ≡ 0) ⊎ (b ≡ sum ws)
    -- with weight 1 at each layout: the best count, and the card that is named by it
    pub equal : (n : N) (m b : ℕ)
        → IsBestWeight g (replicate (length (g.states n)) 1) n m b ↔ IsBestCount g n m b
    pub equal_card : (n : N) (m : ℕ) (c : C) → Sound n → g.is_ours n ≡ true
        → IsNamedByWeight g (replicate (length (g.states n)) 1) n m c ↔ IsNamedCard g n m c

  -- some cards of declarer's side are enough for the best by a measure where one of their vectors has
  -- the best with a move less
  abbrev pub IsEnoughBy : (Vector → ℕ) → Type 0
  IsEnoughBy measure = (n : N) (m b : ℕ) (cs : List C) (v : Vector) → Sound n → g.is_over n ≡ false
      → g.is_ours n ≡ true → ((c : C) → Contains cs c → Contains (g.choices n) c)
      → WinsByCard g n m cs v → measure v ≡ b
      → IsBestBy g measure n m b → IsBestBy g measure n (suc m) b

  -- nodes in this relation have the same front
  abbrev pub HaveOneFront : (N → N → Type 0) → Type 0
  HaveOneFront R = (n p : N) (m : ℕ) (f : List Vector) → Sound n → Sound p → R n p
      → IsFront g n m f ↔ IsFront g p m f

  -- when a search may stop early
  pub record HasCuts : Type 0 where
    -- a list that covers the front covers what every strategy wins,
    pub covered : (n : N) (m : ℕ) (f alpha : List Vector) → IsFront g n m f → CoversAll alpha f → IsBelow g n m alpha
    -- as does one that covers such a list,
    pub wider : (n : N) (m : ℕ) (alpha beta : List Vector) → IsBelow g n m alpha → CoversAll beta alpha → IsBelow g n m beta
    -- and one that covers the front with a move less.
    pub deeper : (n : N) (m : ℕ) (less alpha : List Vector) → Sound n → IsFront g n m less → CoversAll alpha less → IsBelow g n (suc m) alpha
    -- or the front with any number of moves less;
    pub deeper_by : (n : N) (m extra : ℕ) (less alpha : List Vector) → Sound n → IsFront g n m less
        → CoversAll alpha less → IsBelow g n (m + extra) alpha
    -- and what covers with these moves covers with more.
    pub below_deeper : (n : N) (m extra : ℕ) (alpha : List Vector) → Sound n
        → IsBelow g n m alpha → IsBelow g n (m + extra) alpha
    -- If no layout is won with these moves, none is with more.
    pub lost : (n : N) (m extra : ℕ) → Sound n
        → IsFront g n m (replicate (length (g.states n)) false ∷ [])
        → IsFront g n (m + extra) (replicate (length (g.states n)) false ∷ [])
    -- An empty list covers nothing.
    pub never : (n : N) (m : ℕ) → Sound n → IsBelow g n m [] → ⊥
    -- At declarer's side it is enough that each child is covered,
    pub at_declarer : (n : N) (m : ℕ) (alpha : List Vector) → Sound n → g.is_decided n ≡ false → g.is_ours n ≡ true → ((c : C) → Contains (g.choices n) c → IsBelow g (g.child n c) m alpha) → IsBelow g n (suc m) alpha
    -- and at a defender that the replies to some of the cards are: their vectors have 1 at each
    -- layout that no card of theirs is legal in.
    pub at_defender : (n : N) (m : ℕ) (cs : List C) (f alpha : List Vector) → Sound n
        → g.is_decided n ≡ false → g.is_ours n ≡ false
        → ((c : C) → Contains cs c → Contains (g.choices n) c)
        → IsFrontOf (WinsByReply g n (suc m) cs) f → CoversAll alpha f → IsBelow g n (suc m) alpha
    -- Some cards of declarer's side are enough where what they win covers the front with a move less,
    pub same_front : (n : N) (m : ℕ) (cs : List C) (f less : List Vector) → Sound n → g.is_over n ≡ false → g.is_ours n ≡ true → ((c : C) → Contains cs c → Contains (g.choices n) c)
        → IsFrontOf (WinsByCard g n m cs) f → IsFront g n m less → CoversAll f less → IsFront g n (suc m) f
    -- and for the best by a monotone measure where one of their vectors has the best with a move less.
    pub same_best : (measure : Vector → ℕ) → IsMonotone measure → IsEnoughBy measure
    pub same_count : IsEnoughBy ones_of

-- by a test of equal cards: no node of a plan is at fault exactly when the plan fits, and a node at fault is one of its nodes
pub record HasFirstMisfit {N S C : Type 0} (g : Game N S C) (same : C → C → Bool) : Type 0 where
  pub none : (p : Plan C) (n : N) (m : ℕ) → Fits g p n m ↔ (first_misfit g same p n m ≡ None)
  pub within : (p : Plan C) (n : N) (m i : ℕ) → first_misfit g same p n m ≡ Some i → (1 ≤ i) × (i ≤ node_count p)
