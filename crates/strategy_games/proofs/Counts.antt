-- The best and the named card by the count of ones.
use Rattle.std.proofs.Common.{◌≡◌, ◌⊎◌, ◌∙◌, ℕ, true, false, List, ◌∷◌, length, replicate, Contains, ap, inl, inr, ⊎_elim, arith}
use Rattle.win_vectors.specs.Vectors.{ones_of}
use Rattle.win_vectors.specs.Fronts.{Vector, Precedes}
use Rattle.strategy_games.specs.Games.{Game, IsLawful, IsSettled}
use Rattle.strategy_games.specs.Plans.{IsFront}
use Rattle.strategy_games.specs.Choosing.{IsBestCount}
use Rattle.strategy_games.specs.Laws.{HasBestCount, HasNamedCard}
use Rattle.strategy_games.proofs.Lists.{Contains-here, Contains-cons}
use Rattle.strategy_games.proofs.Vectors.{Dominates-ones, Precedes-ones}
use Rattle.strategy_games.proofs.Fronts.{AllPairs-head}
use Rattle.strategy_games.proofs.Masks.{replicate-map, ones-none, ones-all}
use Rattle.strategy_games.proofs.Measures.{best_of, best_by, named_by}

module _ {N S C : Type 0} (g : Game N S C) where
  -- the first vector of a front has the most ones
  best_first : (n : N) (m : ℕ) (v : Vector) (rest : List Vector) → IsFront g n m (v ∷ rest) → IsBestCount g n m (ones_of v)
  best_first n m v rest a = best_of g ones_of n m (v ∷ rest) v a (Contains-here v rest)
      (λ w mem. ⊎_elim (λ (e : v ≡ w). let same = ap ones_of e in omega arith)
      (λ (k : Contains rest w). Precedes-ones v w (AllPairs-head Precedes v rest a.ordered w k))
      (Contains-cons v rest w mem))

  module _ (Sound : N → Type 0) (law : IsLawful g Sound) (settled : IsSettled g Sound) where
    best_decided : (n : N) (m b : ℕ) → Sound n → g.is_decided n ≡ true → IsBestCount g n m b → (b ≡ 0) ⊎ (b ≡ length (g.states n))
    best_decided n m b sound e h = ⊎_elim
        (λ (none : b ≡ ones_of (replicate (length (g.states n)) false)). inl (none ∙ ap ones_of (replicate-map false (g.states n)) ∙ ones-none (g.states n)))
        (λ (each : b ≡ ones_of (replicate (length (g.states n)) true)). inr (each ∙ ap ones_of (replicate-map true (g.states n)) ∙ ones-all (g.states n)))
        ((best_by g ones_of Sound law settled Dominates-ones).decided n m b sound e h)

    pub best_count : HasBestCount g Sound
    best_count = record { by_ones = best_by g ones_of Sound law settled Dominates-ones; first = best_first; decided = best_decided }

    pub named_card : HasNamedCard g Sound
    named_card = named_by g ones_of Sound law settled Dominates-ones
