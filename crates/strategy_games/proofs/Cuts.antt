-- Where a search may stop early.
use Rattle.std.proofs.Common.{◌≡◌, ◌+◌, ◌∙◌, ◌≤◌, ℕ, zero, suc, true, false, List, [], ◌∷◌, length, replicate, Contains, refl, sym, ap, subst, true≢false, arith}
use Rattle.std.proofs.lemmas.Bool.{and_from}
use Rattle.win_vectors.specs.Vectors.{ones_of}
use Rattle.win_vectors.specs.Fronts.{Vector, Dominates, Covers, CoversAll, IsFrontOf}
use Rattle.win_vectors.specs.Weights.{IsMonotone}
use Rattle.strategy_games.specs.Games.{Game, IsLawful, IsDoubleDummy, IsSettled}
use Rattle.strategy_games.specs.Plans.{Plan, Replies, Stop, Play, Hear, cards_of, Fits, FitEach, wins, wins_vector, CanWin, IsFront, IsBelow}
use Rattle.strategy_games.specs.Joins.{WinsByCard, WinsByReply}
use Rattle.strategy_games.specs.Choosing.{IsBestBy}
use Rattle.strategy_games.specs.Laws.{HasCuts, HasMoreMoves, IsEnoughBy}
use Rattle.strategy_games.proofs.Lists.{Contains-nil, Contains-single}
use Rattle.strategy_games.proofs.Vectors.{Dominates-refl, Dominates-trans, Dominates-ones, same_from_ones}
use Rattle.strategy_games.proofs.Fronts.{covers_set, front_grows, front_single, front_unique}
use Rattle.strategy_games.proofs.Masks.{Dominates-map, replicate-map, ones-none}
use Rattle.strategy_games.proofs.Wins.{wins-first, lets, wins_vector-play}
use Rattle.strategy_games.proofs.Nodes.{front_exists, plan_exists, card_wins, replies_from}
use Rattle.strategy_games.proofs.Chosen.{reply_for}
use Rattle.strategy_games.proofs.Moves.{more_moves}
use Rattle.strategy_games.proofs.Measures.{best_exists, best_most, never_rises}

module _ {N S C : Type 0} (g : Game N S C) where
  -- the replies to some of the cards, without the others
  pub some_replies : (rs : Replies C) (n : N) (m : ℕ) (cs : List C)
      → ((c : C) → Contains cs c → Contains (cards_of rs) c) → FitEach g rs n m
      → (less : Replies C) × (cards_of less ≡ cs)
      × (FitEach g less n m × ((s : S) → wins g (Hear rs) s ≡ true → wins g (Hear less) s ≡ true))
  some_replies rs n m cs within fit = replies_from
      (λ less. FitEach g less n m
      × ((s : S) → wins g (Hear rs) s ≡ true → wins g (Hear less) s ≡ true))
      (λ c q. Fits g q (g.child n c) m × ((s : S) → wins g (Hear rs) s ≡ true → lets g c q s ≡ true))
      (tt, λ s h. refl)
      (λ c q less ok others. (
        (ok.0, others.0),
        λ s h. wins-first g c q less s
            ∙ and_from (lets g c q s) (wins g (Hear less) s) (ok.1 s h) (others.1 s h),
      ))
      cs (λ c mem. let q = reply_for g rs n m c (within c mem) fit in (q.0, (q.1, q.2)))

  module _ (Sound : N → Type 0) (law : IsLawful g Sound) where
    below_ours : (n : N) (m : ℕ) (alpha : List Vector) → Sound n → g.is_decided n ≡ false → g.is_ours n ≡ true → ((c : C) → Contains (g.choices n) c → IsBelow g (g.child n c) m alpha) → IsBelow g n (suc m) alpha
    below_ours n m alpha sound live ours h Stop fit = absurd (true≢false (sym fit ∙ live))
    below_ours n m alpha sound live ours h (Play c q) fit = subst (Covers alpha) (sym (wins_vector-play g Sound law n c q sound ours fit.2)) (h c fit.2 q fit.3)
    below_ours n m alpha sound live ours h (Hear rs) fit = absurd (true≢false (sym ours ∙ fit.1))

    below_theirs : (n : N) (m : ℕ) (cs : List C) (f alpha : List Vector) → Sound n
        → g.is_decided n ≡ false → g.is_ours n ≡ false
        → ((c : C) → Contains cs c → Contains (g.choices n) c)
        → IsFrontOf (WinsByReply g n (suc m) cs) f → CoversAll alpha f → IsBelow g n (suc m) alpha
    below_theirs n m cs f alpha sound live theirs within a c Stop fit =
        absurd (true≢false (sym fit ∙ live))
    below_theirs n m cs f alpha sound live theirs within a c (Play d q) fit =
        absurd (true≢false (sym fit.1 ∙ theirs))
    below_theirs n m cs f alpha sound live theirs within a c (Hear rs) fit =
        let r = some_replies rs n (suc m) cs
        (λ d mem. subst (λ (l : List C). Contains l d) (sym fit.2) (within d mem)) fit.3 in
        let u = covers_set (WinsByReply g n (suc m) cs) f alpha a c (wins_vector g (Hear r.0) n)
        (r.0, r.1, r.2.0, refl) in (
          u.0,
          u.1,
          Dominates-trans u.0 (wins_vector g (Hear r.0) n) (wins_vector g (Hear rs) n) u.2
              (Dominates-map (λ s. wins g (Hear r.0) s) (λ s. wins g (Hear rs) s) (g.states n)
              (λ s k h. r.2.1 s h)),
        )

    module _ (double : IsDoubleDummy g Sound) where
      fewer : (n : N) (m extra : ℕ) (more less : List Vector) → Sound n
          → IsFront g n (m + extra) more → IsFront g n m less → CoversAll less more
      fewer n m zero more less sound a b v mem =
          let same : more ≡ less = front_unique (CanWin g n m) more less
          (subst (λ k. IsFront g n k more) (omega arith) a) b in
          (v, subst (λ (l : List Vector). Contains l v) same mem, Dominates-refl v)
      fewer n m (suc extra) more less sound a b v mem =
          let mid = front_exists g Sound law n (m + extra) sound in
          let u = more_moves g Sound law double n (m + extra) more mid.0 sound
          (subst (λ k. IsFront g n k more) (omega arith) a) mid.1 v mem in
          let w = fewer n m extra mid.0 less sound mid.1 b u.0 u.1 in
          (w.0, w.1, Dominates-trans w.0 u.0 v w.2 u.2)

      fewer_best : (measure : Vector → ℕ) → IsMonotone measure → (n : N) (m extra more less : ℕ)
          → Sound n → IsBestBy g measure n (m + extra) more → IsBestBy g measure n m less → more ≤ less
      fewer_best measure monotone n m extra more less sound h k =
          let u = fewer n m extra h.0.0 k.0.0 sound h.0.1 k.0.1 h.0.2 h.0.3 in
          let down = monotone u.0 h.0.2 u.2 in
          let most = k.1 (measure u.0) (k.0.0, k.0.1, u.0, u.1, refl) in
          let is = h.0.4 in
          omega arith

      pub deeper_by : (n : N) (m extra : ℕ) (less alpha : List Vector) → Sound n → IsFront g n m less
          → CoversAll alpha less → IsBelow g n (m + extra) alpha
      deeper_by n m extra less alpha sound a c p fit =
          let f = front_exists g Sound law n (m + extra) sound in
          let v = f.1.covered (wins_vector g p n) (p, fit, refl) in
          let u = fewer n m extra f.0 less sound f.1 a v.0 v.1 in
          let w = c u.0 u.1 in (
            w.0,
            w.1,
            Dominates-trans w.0 u.0 (wins_vector g p n) w.2
                (Dominates-trans u.0 v.0 (wins_vector g p n) u.2 v.2),
          )

      below_deeper : (n : N) (m extra : ℕ) (alpha : List Vector) → Sound n
          → IsBelow g n m alpha → IsBelow g n (m + extra) alpha
      below_deeper n m extra alpha sound below =
          let f = front_exists g Sound law n m sound in
          deeper_by n m extra f.0 alpha sound f.1 (λ v mem.
          let p = f.1.reached v mem in
          subst (Covers alpha) p.2 (below p.0 p.1))

      -- what no layout is won by dominates nothing else
      none_alone : (n : N) (alpha : Vector) → replicate (length (g.states n)) false ≡ alpha
          → (v : Vector) → Covers (alpha ∷ []) v → alpha ≡ v
      none_alone n alpha is v c =
          let d : Dominates alpha v = subst (λ z. Dominates z v) (sym (Contains-single alpha c.0 c.1)) c.2 in
          let none : ones_of alpha ≡ 0 = ap ones_of (sym is ∙ replicate-map false (g.states n))
          ∙ ones-none (g.states n) in
          same_from_ones alpha v d (omega arith)

      lost : (n : N) (m extra : ℕ) → Sound n
          → IsFront g n m (replicate (length (g.states n)) false ∷ [])
          → IsFront g n (m + extra) (replicate (length (g.states n)) false ∷ [])
      lost n m extra sound a =
          let none = replicate (length (g.states n)) false in
          let below = deeper_by n m extra (none ∷ []) (none ∷ []) sound a (λ v mem. (v, mem, Dominates-refl v)) in
          let each : (p : Plan C) → Fits g p n (m + extra) → none ≡ wins_vector g p n
          = λ p fit. none_alone n none refl (wins_vector g p n) (below p fit) in
          let p = plan_exists g Sound law n (m + extra) sound in
          front_single (CanWin g n (m + extra)) none (p.0, p.1, sym (each p.0 p.1))
          (λ w c. subst (Dominates none) (each c.0 c.1 ∙ c.2) (Dominates-refl none))

    pub more_moves_law : IsDoubleDummy g Sound → HasMoreMoves g Sound
    more_moves_law double = record {
      vectors = more_moves g Sound law double;
      best = λ measure monotone. never_rises g measure Sound law monotone double;
      counts = never_rises g ones_of Sound law Dominates-ones double;
      fewer = fewer double;
      fewer_best = fewer_best double;
    }

    module _ (double : IsDoubleDummy g Sound) (settled : IsSettled g Sound) where
      cards_win : (n : N) (m : ℕ) (cs : List C) (v : Vector) → Sound n → g.is_ours n ≡ true → ((c : C) → Contains cs c → Contains (g.choices n) c) → WinsByCard g n m cs v → CanWin g n (suc m) v
      cards_win n m cs v sound ours within w = card_wins g Sound law settled n m v sound ours (w.0, within w.0 w.1, w.2)

      pub same_front : (n : N) (m : ℕ) (cs : List C) (f less : List Vector) → Sound n → g.is_over n ≡ false → g.is_ours n ≡ true → ((c : C) → Contains cs c → Contains (g.choices n) c)
          → IsFrontOf (WinsByCard g n m cs) f → IsFront g n m less → CoversAll f less → IsFront g n (suc m) f
      same_front n m cs f less sound on ours within a b c = front_grows (WinsByCard g n m cs) (CanWin g n (suc m)) f (λ v w. cards_win n m cs v sound ours within w)
          (λ v w.
          let h = front_exists g Sound law n (suc m) sound in
          let x = h.1.covered v w in
          let y = more_moves g Sound law double n m h.0 less sound h.1 b x.0 x.1 in
          let z = c y.0 y.1 in
          (z.0, a.reached z.0 z.1, Dominates-trans z.0 x.0 v (Dominates-trans z.0 y.0 x.0 z.2 y.2) x.2)) a

      same_best : (measure : Vector → ℕ) → IsMonotone measure → IsEnoughBy g Sound measure
      same_best measure monotone n m b cs v sound on ours within w is best =
          let p = cards_win n m cs v sound ours within w in
          let more = best_exists g measure Sound law n (suc m) sound in
          let most : measure (wins_vector g p.0 n) ≤ more.0 = best_most g measure monotone n (suc m) more.0 p.0 more.1 p.1 in
          let won : measure (wins_vector g p.0 n) ≡ measure v = ap measure p.2 in
          let fewer : more.0 ≤ b = never_rises g measure Sound law monotone double n m more.0 b sound more.1 best in
          let same : more.0 ≡ b = omega arith in
          subst (IsBestBy g measure n (suc m)) same more.1

      pub cuts : HasCuts g Sound
      cuts = record {
        covered = λ n m f alpha a c p fit. covers_set (CanWin g n m) f alpha a c (wins_vector g p n) (p, fit, refl);
        wider = λ n m alpha beta below c p fit.
            let u = below p fit in
            let w = c u.0 u.1 in
            (w.0, w.1, Dominates-trans w.0 u.0 (wins_vector g p n) w.2 u.2);
        deeper = λ n m less alpha sound a c p fit.
            let f = front_exists g Sound law n (suc m) sound in
            covers_set (CanWin g n (suc m)) f.0 alpha f.1
            (λ v mem. let u = more_moves g Sound law double n m f.0 less sound f.1 a v mem in let w = c u.0 u.1 in (w.0, w.1, Dominates-trans w.0 u.0 v w.2 u.2))
            (wins_vector g p n) (p, fit, refl);
        deeper_by = deeper_by double;
        below_deeper = below_deeper double;
        lost = lost double;
        never = λ n m sound below. let p = plan_exists g Sound law n m sound in let u = below p.0 p.1 in Contains-nil u.0 u.1;
        at_declarer = below_ours;
        at_defender = below_theirs;
        same_front = same_front;
        same_best = same_best;
        same_count = same_best ones_of Dominates-ones;
      }
