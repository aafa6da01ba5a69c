-- How the fronts of a node's children come together.
use Rattle.std.specs.Prelude.{◌≡◌, ℕ, true, List, [], ◌∷◌, ◌++◌, replicate, Contains}
use Rattle.std.specs.List.{AllZip}
use Rattle.win_vectors.specs.Fronts.{Vector, meets, spreads}
use Rattle.strategy_games.specs.Games.{Game}
use Rattle.strategy_games.specs.Plans.{Replies, Hear, cards_of, FitEach, wins_vector, CanWin, IsFront}

-- at declarer's side: the fronts one after the other
abbrev pub unions : List (List Vector) → List Vector
unions [] = []
unions (f ∷ fs) = f ++ unions fs

-- at a defender: all meets of one spread vector of each child's front
abbrev pub joins : ℕ → List Vector → List (List Vector) → List Vector
joins width (mask ∷ masks) (f ∷ fs) = meets (joins width masks fs) (spreads mask f)
joins width _ _ = replicate width true ∷ []

module _ {N S C : Type 0} (g : Game N S C) where
  -- the fronts of the children by these cards, with m moves
  abbrev pub AreFronts : N → ℕ → List C → List (List Vector) → Type 0
  AreFronts n m cs fs = AllZip (λ c f. IsFront g (g.child n c) m f) cs fs

  -- Search goes card by card: what is won when only these cards may be played,
  abbrev pub WinsByCard : N → ℕ → List C → Vector → Type 0
  WinsByCard n m cs v = (c : C) × Contains cs c × CanWin g (g.child n c) m v

  -- and what is won when a defender may play only these.
  abbrev pub WinsByReply : N → ℕ → List C → Vector → Type 0
  WinsByReply n m cs v = (rs : Replies C) × (cards_of rs ≡ cs) × FitEach g rs n m × (wins_vector g (Hear rs) n ≡ v)
