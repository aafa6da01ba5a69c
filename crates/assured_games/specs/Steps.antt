-- The assured front of a node from those of its children, card by card, as a search goes.
use Rattle.std.specs.Prelude.{◌≡◌, ◌⊎◌, ℕ, zero, suc, Bool, true, false, List, [], ◌∷◌, ◌++◌, map, replicate, length, Contains}
use Rattle.std.specs.List.{AllZip}
use Rattle.win_vectors.specs.Vectors.{restrict_of}
use Rattle.win_vectors.specs.Fronts.{Vector, IsFrontOf, IsReduced, meets, spreads}
use Rattle.strategy_games.specs.Games.{Game, mask}
use Rattle.assured_games.specs.Assured.{IsAssured, IsAssuredFront}

module _ {N S C : Type 0} (g : Game N S C) where
  -- some layout, played for, wins the layouts at which the vector has a 1
  abbrev pub PlaysFor : N → Vector → Type 0
  PlaysFor n v = (t : S) × AllZip (λ b s. b ≡ true → (t ≡ s) × (g.makes s ≡ true)) v (g.states n)

  module _ (sure : N → Bool) where
    -- what is assured where only these cards of declarer's side may be played
    abbrev pub AssuredByCard : N → ℕ → List C → Vector → Type 0
    AssuredByCard n m cs v = (c : C) × Contains cs c × IsAssured g sure (g.child n c) m v

    -- and where a defender may play only these: after each of them its part of the vector is
    abbrev pub AssuredByReply : N → ℕ → List C → Vector → Type 0
    AssuredByReply n m cs v = (length v ≡ length (g.states n))
        × ((c : C) → Contains cs c → IsAssured g sure (g.child n c) m (restrict_of v (mask g n c)))

    pub record HasAssuredSteps (Sound : N → Type 0) : Type 0 where
      -- Where the result is decided or sure, the front is double dummy's results.
      pub claimed : (n : N) (m : ℕ) → Sound n → (g.is_decided n ≡ true) ⊎ (sure n ≡ true)
          → IsAssuredFront g sure n m (map (λ s. g.makes s) (g.states n) ∷ [])
      -- Where no moves are left, one layout is played for.
      pub open_stop : (n : N) (f : List Vector) → g.is_decided n ≡ false → sure n ≡ false
          → IsFrontOf (PlaysFor n) f → IsAssuredFront g sure n zero f
      -- Elsewhere it is found card by card at declarer's side,
      pub no_card : (n : N) (m : ℕ) → IsFrontOf (AssuredByCard n m []) []
      pub more_cards : (n : N) (m : ℕ) (cs : List C) (c : C) (f h union : List Vector)
          → IsFrontOf (AssuredByCard n m cs) f → IsAssuredFront g sure (g.child n c) m h
          → IsReduced (f ++ h) union → IsFrontOf (AssuredByCard n m (cs ++ c ∷ [])) union
      pub all_cards : (n : N) (m : ℕ) (f : List Vector) → Sound n → g.is_decided n ≡ false
          → sure n ≡ false → g.is_ours n ≡ true → IsFrontOf (AssuredByCard n m (g.choices n)) f
          → IsAssuredFront g sure n (suc m) f
      -- and reply by reply at a defender.
      pub no_reply : (n : N) (m : ℕ)
          → IsFrontOf (AssuredByReply n m []) (replicate (length (g.states n)) true ∷ [])
      pub more_replies : (n : N) (m : ℕ) (cs : List C) (c : C) (f h join : List Vector) → Sound n
          → Contains (g.choices n) c → IsFrontOf (AssuredByReply n m cs) f
          → IsAssuredFront g sure (g.child n c) m h
          → IsReduced (meets f (spreads (mask g n c) h)) join
          → IsFrontOf (AssuredByReply n m (cs ++ c ∷ [])) join
      pub all_replies : (n : N) (m : ℕ) (f : List Vector) → Sound n → g.is_decided n ≡ false
          → sure n ≡ false → g.is_ours n ≡ false
          → IsFrontOf (AssuredByReply n (suc m) (g.choices n)) f → IsAssuredFront g sure n (suc m) f
