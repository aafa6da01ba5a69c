-- Which strategy is printed for a vector, and which card is named.
use Rattle.std.specs.Prelude.{◌≡◌, ◌≤◌, ℕ, zero, suc, true, false, ⊤, List, [], ◌∷◌, ◌++◌, map, replicate, length, Contains}
use Rattle.win_vectors.specs.Vectors.{ones_of, restrict_of}
use Rattle.win_vectors.specs.Fronts.{Vector, Covers, IsFirstAbove}
use Rattle.win_vectors.specs.Weights.{weight_of}
use Rattle.strategy_games.specs.Games.{Game, mask}
use Rattle.strategy_games.specs.Plans.{Plan, Replies, Stop, Play, Hear, NoReply, Reply, cards_of, stops, IsFront}

-- x is the first of the list of which P holds
abbrev pub IsFirstOf : {X : Type 0} → (X → Type 0) → List X → X → Type 0
IsFirstOf {X} P xs x = (earlier later : List X) × (xs ≡ earlier ++ x ∷ later) × ((y : X) → Contains earlier y → P y → ⊥) × P x

-- for each 1 of u, the vector of all ones but there
abbrev pub misses : Vector → List Vector
misses [] = []
misses (true ∷ u) = (false ∷ replicate (length u) true) ∷ map (λ v. true ∷ v) (misses u)
misses (false ∷ u) = map (λ v. true ∷ v) (misses u)

module _ {N S C : Type 0} (g : Game N S C) where
  -- u is the first vector of the front that dominates t
  abbrev pub IsPick : N → ℕ → Vector → Vector → Type 0
  IsPick n m t u = (f : List Vector) × IsFront g n m f × IsFirstAbove f t u

  -- after the card, with m moves, some vector of the front dominates u
  abbrev pub Keeps : N → ℕ → Vector → C → Type 0
  Keeps n m u c = (f : List Vector) × IsFront g (g.child n c) m f × Covers f u

  abbrev mutual
    -- the plan that is printed for a vector t which the front dominates
    pub IsChosenPlan : Plan C → N → ℕ → Vector → Type 0
    IsChosenPlan Stop n m t = stops g n m ≡ true
    IsChosenPlan (Play c q) n zero t = ⊥
    IsChosenPlan (Play c q) n (suc m) t = (g.is_decided n ≡ false) × (g.is_ours n ≡ true)
        × (u : Vector) × IsPick n (suc m) t u × IsFirstOf (Keeps n m u) (g.choices n) c × IsChosenPlan q (g.child n c) m u
    IsChosenPlan (Hear rs) n m t = (stops g n m ≡ false) × (g.is_ours n ≡ false)
        × (u : Vector) × IsPick n m t u × (cards_of rs ≡ g.choices n) × AreChosenReplies rs n m u

    -- each reply is printed for the part of u at the layouts in which its card is legal
    pub AreChosenReplies : Replies C → N → ℕ → Vector → Type 0
    AreChosenReplies NoReply n m u = ⊤
    AreChosenReplies (Reply c q rs) n m u = IsChosenPlan q (g.child n c) m (restrict_of u (mask g n c)) × AreChosenReplies rs n m u

  -- by a measure of vectors: some vector of the node's front measures this much
  abbrev pub HasMeasure : (Vector → ℕ) → N → ℕ → ℕ → Type 0
  HasMeasure measure n m b = (f : List Vector) × IsFront g n m f
      × (v : Vector) × Contains f v × (measure v ≡ b)

  -- the greatest measure of a vector of the front
  abbrev pub IsBestBy : (Vector → ℕ) → N → ℕ → ℕ → Type 0
  IsBestBy measure n m b = HasMeasure measure n m b × ((c : ℕ) → HasMeasure measure n m c → c ≤ b)

  -- the first of the choices after which the greatest measure is kept
  abbrev pub IsNamedBy : (Vector → ℕ) → N → ℕ → C → Type 0
  IsNamedBy measure n zero c = ⊥
  IsNamedBy measure n (suc m) c = (b : ℕ) × IsBestBy measure n (suc m) b
      × IsFirstOf (λ d. HasMeasure measure (g.child n d) m b) (g.choices n) c

  -- no vector of these cards' children measures more than b, and c is the first whose child has one
  -- that measures b
  abbrev pub IsLeader : (Vector → ℕ) → N → ℕ → List C → ℕ → C → Type 0
  IsLeader measure n m cs b c = ((d : C) (k : ℕ) → Contains cs d
      → HasMeasure measure (g.child n d) m k → k ≤ b)
      × IsFirstOf (λ d. HasMeasure measure (g.child n d) m b) cs c

  -- some vector of the node's front has this many ones
  abbrev pub HasCount : N → ℕ → ℕ → Type 0
  HasCount n m b = HasMeasure ones_of n m b

  -- the greatest number of layouts that one vector of the front wins
  abbrev pub IsBestCount : N → ℕ → ℕ → Type 0
  IsBestCount n m b = IsBestBy ones_of n m b

  -- the first of the choices after which the best count is kept
  abbrev pub IsNamedCard : N → ℕ → C → Type 0
  IsNamedCard n m c = IsNamedBy ones_of n m c

  -- the greatest weight of the layouts that one vector of the front wins
  abbrev pub IsBestWeight : List ℕ → N → ℕ → ℕ → Type 0
  IsBestWeight ws n m b = IsBestBy (weight_of ws) n m b

  -- the first of the choices after which the best weight is kept
  abbrev pub IsNamedByWeight : List ℕ → N → ℕ → C → Type 0
  IsNamedByWeight ws n m c = IsNamedBy (weight_of ws) n m c
