-- Nodes that play keeps alike have the same front.
use Rattle.std.proofs.Common.{◌≡◌, ◌∙◌, ◌<◌, ℕ, zero, suc, true, List, length, Contains, refl, sym, ap, subst, true≢false, arith}
use Rattle.std.proofs.lemmas.List.{length-map}
use Rattle.win_vectors.specs.Vectors.{spread_of}
use Rattle.win_vectors.specs.Fronts.{Vector, Dominates}
use Rattle.strategy_games.specs.Games.{Game, mask, IsLawful}
use Rattle.strategy_games.specs.Plans.{Plan, Stop, Play, Hear, stops, Fits, wins, wins_vector, CanWin, IsFront}
use Rattle.strategy_games.specs.Alike.{IsKeptByPlay}
use Rattle.strategy_games.specs.Laws.{HaveOneFront}
use Rattle.strategy_games.proofs.Vectors.{Dominates-refl, Dominates-trans, Dominates-spread}
use Rattle.strategy_games.proofs.Fronts.{front_level}
use Rattle.strategy_games.proofs.Wins.{wins_vector-stop, wins_vector-play}
use Rattle.strategy_games.proofs.Replying.{spread_over, replies_over}

module _ {N S C : Type 0} (g : Game N S C) (Sound : N → Type 0) (law : IsLawful g Sound) where
  module _ (R : N → N → Type 0) (kept : IsKeptByPlay g Sound R) where
    same_stops : (n o : N) (m : ℕ) → Sound n → Sound o → R n o → stops g n m ≡ stops g o m
    same_stops n o zero sound other r = refl
    same_stops n o (suc m) sound other r = kept.decided n o sound other r

    same_width : (n o : N) → Sound n → Sound o → R n o → length (g.states o) ≡ length (g.states n)
    same_width n o sound other r = sym (length-map (g.states o) (λ s. g.makes s))
        ∙ sym (ap (λ (v : Vector). length v) (kept.results n o sound other r))
        ∙ length-map (g.states n) (λ s. g.makes s)

    -- a plan that wins at the one node is matched by one at the other
    carried : (k : ℕ) (p : Plan C) (n o : N) (m : ℕ) → g.cards_left n < k → Sound n → Sound o
        → R n o → Fits g p n m
        → (q : Plan C) × Fits g q o m × Dominates (wins_vector g q o) (wins_vector g p n)
    carried zero p n o m l sound other r fit = absurd (omega arith)
    carried (suc k) Stop n o m l sound other r fit = (
      Stop,
      sym (same_stops n o m sound other r) ∙ fit,
      subst (Dominates (wins_vector g Stop o))
          (wins_vector-stop g o ∙ sym (kept.results n o sound other r) ∙ sym (wins_vector-stop g n))
          (Dominates-refl (wins_vector g Stop o)),
    )
    carried (suc k) (Play c q) n o zero l sound other r fit = absurd fit
    carried (suc k) (Play c q) n o (suc m) l sound other r fit =
        let d = kept.there n o c sound other r fit.0 fit.2 in
        let less = law.falls n c sound fit.0 fit.2 in
        let w = carried k q (g.child n c) (g.child o d.0) m (omega arith) (law.holds n c sound fit.2)
        (law.holds o d.0 other d.1) d.3 fit.3 in
        let ours : g.is_ours o ≡ true = sym (kept.turn n o sound other r) ∙ fit.1 in (
          Play d.0 w.0,
          (sym (kept.decided n o sound other r) ∙ fit.0, ours, d.1, w.1),
          subst (Dominates (wins_vector g (Play d.0 w.0) o))
              (sym (wins_vector-play g Sound law n c q sound fit.1 fit.2))
              (subst (λ z. Dominates z (wins_vector g q (g.child n c)))
              (sym (wins_vector-play g Sound law o d.0 w.0 other ours d.1)) w.2),
        )
    carried (suc k) (Hear rs) n o zero l sound other r fit = absurd (true≢false fit.0)
    carried (suc k) (Hear rs) n o (suc m) l sound other r fit =
        let ss = replies_over g Sound law o (suc m) (wins_vector g (Hear rs) n) (g.choices o) other
        (length-map (g.states n) (λ s. wins g (Hear rs) s) ∙ sym (same_width n o sound other r)) (each (λ c d q mem other_mem alike fits.
        let less = law.falls n c sound fit.0 mem in
        carried k q (g.child n c) (g.child o d) (suc m) (omega arith) (law.holds n c sound mem)
        (law.holds o d other other_mem) alike fits)) in
        (Hear ss.0, (sym (kept.decided n o sound other r) ∙ fit.0, sym (kept.turn n o sound other r) ∙ fit.1, ss.1, ss.2.0), ss.2.1)
      where
        each : ((c d : C) (q : Plan C) → Contains (g.choices n) c → Contains (g.choices o) d
            → R (g.child n c) (g.child o d) → Fits g q (g.child n c) (suc m)
            → (w : Plan C) × Fits g w (g.child o d) (suc m)
            × Dominates (wins_vector g w (g.child o d)) (wins_vector g q (g.child n c)))
            → (d : C) → Contains (g.choices o) d → (q : Plan C) × (Contains (g.choices o) d
            × Fits g q (g.child o d) (suc m)
            × Dominates (spread_of (wins_vector g q (g.child o d)) (mask g o d)) (wins_vector g (Hear rs) n))
        each below d mem =
            let c = kept.back n o d sound other r fit.0 mem in
            let q = spread_over g Sound law rs n (suc m) c.0 sound c.1
            (subst (λ (z : List C). Contains z c.0) (sym fit.2) c.1) fit.3 in
            let w = below c.0 d q.0 c.1 mem c.3 q.1 in (
              w.0,
              (
                mem,
                w.1,
                Dominates-trans (spread_of (wins_vector g w.0 (g.child o d)) (mask g o d))
                    (spread_of (wins_vector g q.0 (g.child n c.0)) (mask g n c.0)) (wins_vector g (Hear rs) n)
                    (subst (λ (z : Vector). Dominates (spread_of (wins_vector g w.0 (g.child o d)) z)
                    (spread_of (wins_vector g q.0 (g.child n c.0)) (mask g n c.0))) c.2
                    (Dominates-spread (wins_vector g w.0 (g.child o d)) (wins_vector g q.0 (g.child n c.0))
                    (mask g n c.0) w.2))
                    q.2,
              ),
            )

  -- the relation the other way round
  turned : (R : N → N → Type 0) → IsKeptByPlay g Sound R → IsKeptByPlay g Sound (λ n o. R o n)
  turned R kept = record {
    turn = λ n o sound other r. sym (kept.turn o n other sound r);
    decided = λ n o sound other r. sym (kept.decided o n other sound r);
    results = λ n o sound other r. sym (kept.results o n other sound r);
    there = λ n o c sound other r live mem.
        let d = kept.back o n c other sound r (kept.decided o n other sound r ∙ live) mem in
        (d.0, d.1, sym d.2, d.3);
    back = λ n o d sound other r live mem.
        let c = kept.there o n d other sound r (kept.decided o n other sound r ∙ live) mem in
        (c.0, c.1, sym c.2, c.3);
  }

  module _ (R : N → N → Type 0) (kept : IsKeptByPlay g Sound R) where
    -- what the one node wins, the other dominates
    matched : (n o : N) (m : ℕ) → Sound n → Sound o → R n o → (v : Vector) → CanWin g n m v
        → (u : Vector) × CanWin g o m u × Dominates u v
    matched n o m sound other r v w =
        let q = carried R kept (suc (g.cards_left n)) w.0 n o m (omega arith) sound other r w.1 in
        (wins_vector g q.0 o, (q.0, q.1, refl), subst (Dominates (wins_vector g q.0 o)) w.2 q.2)

  alike_front : (R : N → N → Type 0) → IsKeptByPlay g Sound R → (n o : N) (m : ℕ) (f : List Vector)
      → Sound n → Sound o → R n o → IsFront g n m f → IsFront g o m f
  alike_front R kept n o m f sound other r a = front_level (CanWin g n m) (CanWin g o m) f
      (matched R kept n o m sound other r) (matched (λ x y. R y x) (turned R kept) o n m other sound r) a

  pub alike_law : (R : N → N → Type 0) → IsKeptByPlay g Sound R → HaveOneFront g Sound R
  alike_law R kept n o m f sound other r = (
    alike_front R kept n o m f sound other r,
    alike_front (λ x y. R y x) (turned R kept) o n m f other sound r,
  )
