-- Where complete plans win a front, more moves don't change it.
use Rattle.std.proofs.Common.{◌≡◌, ◌+◌, ℕ, zero, suc, List, Contains, sym, subst, true≢false, arith}
use Rattle.win_vectors.specs.Fronts.{Vector, Covers}
use Rattle.strategy_games.specs.Games.{Game, IsLawful, IsDoubleDummy}
use Rattle.strategy_games.specs.Plans.{Plan, Replies, Stop, Play, Hear, NoReply, Reply, Fits, FitEach, wins_vector, IsComplete, AreComplete, IsFront}
use Rattle.strategy_games.specs.SearchLaws.{HasExactness}
use Rattle.strategy_games.proofs.Vectors.{Dominates-refl}
use Rattle.strategy_games.proofs.Nodes.{stops-decided}
use Rattle.strategy_games.proofs.Chosen.{chosen_plan}
use Rattle.strategy_games.proofs.Cuts.{deeper_by}

module _ {N S C : Type 0} (g : Game N S C) where
  -- a complete plan is a strategy with more moves
  mutual
    fits_longer : (p : Plan C) (n : N) (m extra : ℕ) → Fits g p n m → IsComplete g p n → Fits g p n (m + extra)
    fits_longer Stop n m extra fit end = stops-decided g n (m + extra) end
    fits_longer (Play c q) n zero extra fit end = absurd fit
    fits_longer (Play c q) n (suc m) extra fit end = let e : suc (m + extra) ≡ suc m + extra = omega arith in
        subst (λ k. Fits g (Play c q) n k) e (fit.0, fit.1, fit.2, fits_longer q (g.child n c) m extra fit.3 end)
    fits_longer (Hear rs) n zero extra fit end = absurd (true≢false fit.0)
    fits_longer (Hear rs) n (suc m) extra fit end = let e : suc (m + extra) ≡ suc m + extra = omega arith in
        subst (λ k. Fits g (Hear rs) n k) e (fit.0, fit.1, fit.2, subst (λ k. FitEach g rs n k) (sym e) (fit_longer rs n (suc m) extra fit.3 end))

    fit_longer : (rs : Replies C) (n : N) (m extra : ℕ) → FitEach g rs n m → AreComplete g rs n → FitEach g rs n (m + extra)
    fit_longer NoReply n m extra fit end = tt
    fit_longer (Reply c q rs) n m extra fit end = (fits_longer q (g.child n c) m extra fit.0 end.0, fit_longer rs n m extra fit.1 end.1)

  module _ (Sound : N → Type 0) (law : IsLawful g Sound) (double : IsDoubleDummy g Sound) where
    complete : (n : N) (m extra : ℕ) (f : List Vector) → Sound n → IsFront g n m f
        → ((v : Vector) → Contains f v → (p : Plan C) × Fits g p n m × IsComplete g p n × (wins_vector g p n ≡ v))
        → IsFront g n (m + extra) f
    complete n m extra f sound a ends = record {
      reached = λ v mem. let p = ends v mem in (p.0, fits_longer p.0 n m extra p.1 p.2, p.3);
      covered = λ v w. subst (Covers f) w.2 (deeper_by g Sound law double n m extra f f sound a
          (λ u mem. (u, mem, Dominates-refl u)) w.0 w.1);
      apart = a.apart;
      ordered = a.ordered;
    }

    pub exactness : HasExactness g Sound
    exactness = record {
      complete = complete;
      chosen = λ n m extra f sound a ends. complete n m extra f sound a (λ v mem.
          let laws = chosen_plan g Sound law in
          let c : Covers f v = (v, mem, Dominates-refl v) in
          let p = laws.exists n m v f sound a c in
          let won = laws.wins p.0 n m v f sound a c p.1 in
          (p.0, won.0, ends v p.0 mem p.1, a.apart (wins_vector g p.0 n) v won.1.member mem won.1.above));
    }
