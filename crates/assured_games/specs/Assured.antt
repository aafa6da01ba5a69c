-- Assured vectors: what declarer's side is sure to win, however many moves more it plans.
use Rattle.std.specs.Prelude.{◌≡◌, ◌⊎◌, ◌≤◌, ℕ, zero, suc, Bool, true, false, ⊤, List, [], ◌∷◌, Contains}
use Rattle.std.specs.List.{AllZip}
use Rattle.win_vectors.specs.Fronts.{Vector, IsFrontOf}
use Rattle.strategy_games.specs.Games.{Game}
use Rattle.strategy_games.specs.Plans.{stops}

mutual
  -- a plan of declarer's side that says what it plays for where its moves are used up
  pub data Line (S C : Type 0) : Type 0 where
    Claim : Line S C  -- the result is decided, or sure
    PlayFor : S → Line S C  -- no moves are left: from here on this layout is played for
    Move : C → Line S C → Line S C
    Wait : Branches S C → Line S C

  -- one line for each card that a defender may play
  pub data Branches (S C : Type 0) : Type 0 where
    NoBranch : Branches S C
    Branch : C → Line S C → Branches S C → Branches S C

-- the cards that the line goes on after
abbrev pub cards_of : {S C : Type 0} → Branches S C → List C
cards_of NoBranch = []
cards_of (Branch c p bs) = c ∷ cards_of bs

module _ {N S C : Type 0} (g : Game N S C) where
  abbrev mutual
    -- the line wins this layout, whatever the defenders do
    pub Secures : Line S C → S → Type 0
    Secures Claim s = g.makes s ≡ true
    Secures (PlayFor t) s = (t ≡ s) × (g.makes s ≡ true)
    Secures (Move c p) s = Secures p (g.after c s)
    Secures (Wait bs) s = SecureEach bs s

    pub SecureEach : Branches S C → S → Type 0
    SecureEach NoBranch s = ⊤
    SecureEach (Branch c p bs) s =
        (g.is_legal c s ≡ true → Secures p (g.after c s)) × SecureEach bs s

  -- `sure` tells of a node, without a look at any layout, that declarer's side has the tricks it needs
  module _ (sure : N → Bool) where
    abbrev mutual
      -- the line can be played at node n with m moves of declarer's side
      pub IsLine : Line S C → N → ℕ → Type 0
      IsLine Claim n m = (g.is_decided n ≡ true) ⊎ (sure n ≡ true)
      IsLine (PlayFor t) n zero = ⊤
      IsLine (PlayFor t) n (suc m) = ⊥
      IsLine (Move c p) n zero = ⊥
      IsLine (Move c p) n (suc m) = (g.is_decided n ≡ false) × (g.is_ours n ≡ true)
          × Contains (g.choices n) c × IsLine p (g.child n c) m
      IsLine (Wait bs) n m = (stops g n m ≡ false) × (g.is_ours n ≡ false)
          × (cards_of bs ≡ g.choices n) × AreLines bs n m

      pub AreLines : Branches S C → N → ℕ → Type 0
      AreLines NoBranch n m = ⊤
      AreLines (Branch c p bs) n m = IsLine p (g.child n c) m × AreLines bs n m

    -- some line with m moves wins at least the layouts at which the vector has a 1
    abbrev pub IsAssured : N → ℕ → Vector → Type 0
    IsAssured n m v = (p : Line S C) × IsLine p n m
        × AllZip (λ b s. b ≡ true → Secures p s) v (g.states n)

    -- the front of what is assured at node n with m moves
    abbrev pub IsAssuredFront : N → ℕ → List Vector → Type 0
    IsAssuredFront n m front = IsFrontOf (IsAssured n m) front

    -- the greatest measure of an assured vector
    pub record IsLeastBy (measure : Vector → ℕ) (n : N) (m b : ℕ) : Type 0 where
      pub vector : Vector
      pub assured : IsAssured n m vector
      pub measured : measure vector ≡ b
      pub greatest : (v : Vector) → IsAssured n m v → measure v ≤ b
