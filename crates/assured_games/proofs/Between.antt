-- What is assured is won, and the bracket round the best.
use Rattle.std.proofs.Common.{◌≡◌, ◌+◌, ◌<◌, ◌≤◌, ℕ, zero, suc, Bool, true, List, refl, subst, arith}
use Rattle.std.specs.List.{AllZip}
use Rattle.win_vectors.specs.Fronts.{Vector, Dominates, Covers}
use Rattle.win_vectors.specs.Weights.{IsMonotone}
use Rattle.strategy_games.specs.Games.{Game, IsLawful, IsDoubleDummy}
use Rattle.strategy_games.specs.Plans.{wins, wins_vector, CanWin, IsFront}
use Rattle.strategy_games.specs.Choosing.{IsBestBy}
use Rattle.strategy_games.proofs.Vectors.{Dominates-refl, Dominates-trans}
use Rattle.strategy_games.proofs.Fronts.{front_level}
use Rattle.strategy_games.proofs.Measures.{best_exists}
use Rattle.strategy_games.proofs.Cuts.{more_moves_law}
use Rattle.assured_games.specs.Assured.{Secures, IsAssured, IsLeastBy}
use Rattle.assured_games.specs.Laws.{IsPlayedOut, IsSureOfAll, IsBracketed, HasBracket}
use Rattle.assured_games.proofs.Lines.{dominated, carried, marked, as_plan, longer, as_line}

module _ {N S C : Type 0} (g : Game N S C) (sure : N → Bool) (Sound : N → Type 0) (law : IsLawful g Sound) (played : IsPlayedOut g Sound) (sure_of : IsSureOfAll g Sound sure) where
  -- with a move more
  one_more : (n : N) (m : ℕ) (v : Vector) → Sound n → IsAssured g sure n m v → IsAssured g sure n (suc m) v
  one_more n m v sound a =
      let r = longer g sure Sound law played a.0 n m sound a.1 in
      (r.0, r.1, carried (λ s. Secures g a.0 s) (λ s. Secures g r.0 s) v (g.states n) a.2 r.2)

  rises : (n : N) (m extra : ℕ) (v : Vector) → Sound n → IsAssured g sure n m v → IsAssured g sure n (m + extra) v
  rises n m zero v sound a = subst (λ k. IsAssured g sure n k v) (omega arith) a
  rises n m (suc extra) v sound a = subst (λ k. IsAssured g sure n k v) (omega arith) (one_more n (m + extra) v sound (rises n m extra v sound a))

  -- some plan wins no less
  above : (n : N) (m : ℕ) (v : Vector) → Sound n → IsAssured g sure n m v → (u : Vector) × CanWin g n m u × Dominates u v
  above n m v sound a =
      let q = as_plan g sure Sound law sure_of a.0 n m sound a.1 in
      (wins_vector g q.0 n, (q.0, q.1, refl), dominated (λ s. wins g q.0 s) (λ s. Secures g a.0 s) v (g.states n) a.2 q.2)

  covered : (n : N) (m : ℕ) (v : Vector) (front : List Vector) → Sound n → IsAssured g sure n m v → IsFront g n m front → Covers front v
  covered n m v front sound a f =
      let u = above n m v sound a in
      let w = f.covered u.0 u.1 in
      (w.0, w.1, Dominates-trans w.0 u.0 v w.2 u.2)

  -- with all cards planned a plan is a line
  back : (n : N) (m : ℕ) (v : Vector) → Sound n → g.cards_left n < m → CanWin g n m v → IsAssured g sure n m v
  back n m v sound l w =
      let p = as_line g sure Sound law w.0 n m sound l w.1 in
      (p.0, p.1, subst (λ u. AllZip (λ b s. b ≡ true → Secures g p.0 s) u (g.states n)) w.2 (marked (λ s. wins g w.0 s) (λ s. Secures g p.0 s) (g.states n) p.2))

  pub bracketed : IsBracketed g Sound sure
  bracketed = record {
    rises = rises;
    won = λ n m extra v front sound a f. covered n (m + extra) v front sound (rises n m extra v sound a) f;
    all_planned = λ n m front sound l.
        let to : (v : Vector) → IsAssured g sure n m v → (u : Vector) × CanWin g n m u × Dominates u v = λ v a. above n m v sound a in
        let from : (v : Vector) → CanWin g n m v → (u : Vector) × IsAssured g sure n m u × Dominates u v = λ v w. (v, back n m v sound l w, Dominates-refl v) in (
          front_level (IsAssured g sure n m) (CanWin g n m) front to from,
          front_level (CanWin g n m) (IsAssured g sure n m) front from to,
        );
  }

  module _ (double : IsDoubleDummy g Sound) (measure : Vector → ℕ) (monotone : IsMonotone measure) where
    -- no assured vector measures more than the best
    no_more : (n : N) (m best : ℕ) (v : Vector) → Sound n → IsAssured g sure n m v → IsBestBy g measure n m best → measure v ≤ best
    no_more n m best v sound a h =
        let u = covered n m v h.0.0 sound a h.0.1 in
        let less = monotone u.0 v u.2 in
        let most = h.1 (measure u.0) (h.0.0, h.0.1, u.0, u.1, refl) in
        omega arith

    low : (n : N) (m extra least best : ℕ) → Sound n → IsLeastBy g sure measure n m least → IsBestBy g measure n (m + extra) best → least ≤ best
    low n m extra least best sound h k =
        let no = no_more n (m + extra) best h.vector sound (rises n m extra h.vector sound h.assured) k in
        let is = h.measured in
        omega arith

    high : (n : N) (m extra best most : ℕ) → Sound n → IsBestBy g measure n (m + extra) best → IsBestBy g measure n m most → best ≤ most
    high = (more_moves_law g Sound law double).fewer_best measure monotone

    final : (n : N) (m extra b : ℕ) → Sound n → IsLeastBy g sure measure n m b → IsBestBy g measure n m b → IsBestBy g measure n (m + extra) b
    final n m extra b sound h k =
        let best = best_exists g measure Sound law n (m + extra) sound in
        let up = low n m extra b best.0 sound h best.1 in
        let down = high n m extra best.0 b sound best.1 k in
        subst (λ c. IsBestBy g measure n (m + extra) c) (omega arith) best.1

    -- with all cards planned the best is the measure of an assured vector
    met : (n : N) (m b : ℕ) → Sound n → g.cards_left n < m → IsBestBy g measure n m b → IsLeastBy g sure measure n m b
    met n m b sound l h = record {
      vector = h.0.2;
      assured = back n m h.0.2 sound l (h.0.1.reached h.0.2 h.0.3);
      measured = h.0.4;
      greatest = λ v a. no_more n m b v sound a h;
    }

    meet_back : (n : N) (m b : ℕ) → Sound n → g.cards_left n < m → IsLeastBy g sure measure n m b → IsBestBy g measure n m b
    meet_back n m b sound l h =
        let best = best_exists g measure Sound law n m sound in
        let least = met n m best.0 sound l best.1 in
        let up = h.greatest least.vector least.assured in
        let down = least.greatest h.vector h.assured in
        let is = h.measured in
        let same = least.measured in
        subst (λ c. IsBestBy g measure n m c) (omega arith) best.1

    pub bracket : HasBracket g Sound sure measure
    bracket = record {
      rises = λ n m extra least later sound h k.
          let no = k.greatest h.vector (rises n m extra h.vector sound h.assured) in
          let is = h.measured in
          omega arith;
      low = low;
      high = high;
      final = final;
      meet = λ n m b sound l. (meet_back n m b sound l, met n m b sound l);
    }
