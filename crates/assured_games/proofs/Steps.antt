-- The assured front card by card.
use Rattle.std.proofs.Common.{◌≡◌, ◌⊎◌, ◌++◌, ◌∙◌, ℕ, zero, suc, Bool, true, false, List, [], ◌∷◌, length, map, filter, replicate, Contains, sym, ap, subst, true≢false, ⊎_elim}
use Rattle.std.proofs.lemmas.List.{length-map}
use Rattle.win_vectors.specs.Vectors.{meet_of, spread_of, restrict_of, ones_of}
use Rattle.win_vectors.specs.Fronts.{Vector, Dominates, IsFrontOf, IsReduced, meets, spreads}
use Rattle.win_vectors.proofs.VectorLemmas.{length-meet_of}
use Rattle.strategy_games.specs.Games.{Game, mask, IsLawful, IsDoubleDummy}
use Rattle.strategy_games.proofs.Lists.{Contains-here, Contains-nil, Contains-cons, Contains-single, Contains-append, Contains-append_first, Contains-append_second, Contains-map, Contains-of_map}
use Rattle.strategy_games.proofs.Vectors.{Dominates-both}
use Rattle.strategy_games.proofs.Fronts.{front_single, front_grows, front_same, reduced_nil, Contains-meets, Contains-of_meets}
use Rattle.strategy_games.proofs.Masks.{Dominates-all, replicate-map}
use Rattle.strategy_games.proofs.Wins.{states-child}
use Rattle.strategy_games.proofs.Moves.{made_by}
use Rattle.assured_games.specs.Assured.{Line, Branches, Claim, PlayFor, Move, Wait, NoBranch, Branch, cards_of, Secures, SecureEach, IsLine, AreLines, IsAssured, IsAssuredFront}
use Rattle.assured_games.specs.Laws.{IsSureOfAll}
use Rattle.assured_games.specs.Made.{results}
use Rattle.assured_games.specs.Steps.{PlaysFor, AssuredByCard, AssuredByReply, HasAssuredSteps}
use Rattle.assured_games.proofs.Zips.{AtOnes, meet_first, meet_second, restrict_below, spread_up, spread_down, length_spread, length_kept, length_zip, zip_any, zip_both, zip_lower, zip_map, zip_of_map, zip_restrict, zip_unrestrict}
use Rattle.assured_games.proofs.Lines.{dominated, carried, marked, branches_from, as_plan}

module _ {N S C : Type 0} (g : Game N S C) (sure : N → Bool) where
  -- a vector with fewer ones is assured too
  lower : (n : N) (m : ℕ) (u v : Vector) → Dominates u v → IsAssured g sure n m u → IsAssured g sure n m v
  lower n m u v d a = (a.0, a.1, zip_lower (λ s. Secures g a.0 s) u v (g.states n) d a.2)

  length_assured : (n : N) (m : ℕ) (v : Vector) → IsAssured g sure n m v → length v ≡ length (g.states n)
  length_assured n m v a = length_zip (λ s. Secures g a.0 s) v (g.states n) a.2

  open_stop : (n : N) (f : List Vector) → g.is_decided n ≡ false → sure n ≡ false → IsFrontOf (PlaysFor g n) f → IsAssuredFront g sure n zero f
  open_stop n f live unsure a = front_same (PlaysFor g n) (IsAssured g sure n zero) f (λ v w. (PlayFor w.0, tt, w.1)) (λ v w. back v w.0 w.1 w.2) a
    where
      back : (v : Vector) (p : Line S C) → IsLine g sure p n zero → AtOnes (λ s. Secures g p s) v (g.states n) → PlaysFor g n v
      back v Claim fit z = absurd (⊎_elim (λ (e : g.is_decided n ≡ true). true≢false (sym e ∙ live)) (λ (e : sure n ≡ true). true≢false (sym e ∙ unsure)) fit)
      back v (PlayFor t) fit z = (t, z)
      back v (Move c p) fit z = absurd fit
      back v (Wait bs) fit z = absurd (true≢false fit.0)

  no_card : (n : N) (m : ℕ) → IsFrontOf (AssuredByCard g sure n m []) []
  no_card n m = front_same (Contains []) (AssuredByCard g sure n m []) [] (λ v k. absurd (Contains-nil v k)) (λ v w. absurd (Contains-nil w.0 w.1)) reduced_nil

  more_cards : (n : N) (m : ℕ) (cs : List C) (c : C) (f h union : List Vector)
      → IsFrontOf (AssuredByCard g sure n m cs) f → IsAssuredFront g sure (g.child n c) m h → IsReduced (f ++ h) union → IsFrontOf (AssuredByCard g sure n m (cs ++ c ∷ [])) union
  more_cards n m cs c f h union ff fh r = front_grows (Contains (f ++ h)) (AssuredByCard g sure n m (cs ++ c ∷ [])) union within above r
    where
      within : (v : Vector) → Contains (f ++ h) v → AssuredByCard g sure n m (cs ++ c ∷ []) v
      within v k = ⊎_elim
          (λ (l : Contains f v). let w = ff.reached v l in (w.0, Contains-append_first cs (c ∷ []) w.0 w.1, w.2))
          (λ (l : Contains h v). (c, Contains-append_second cs (c ∷ []) c (Contains-here c []), fh.reached v l))
          (Contains-append f h v k)

      above : (v : Vector) → AssuredByCard g sure n m (cs ++ c ∷ []) v → (u : Vector) × Contains (f ++ h) u × Dominates u v
      above v w = ⊎_elim
          (λ (l : Contains cs w.0). let u = ff.covered v (w.0, l, w.2) in (u.0, Contains-append_first f h u.0 u.1, u.2))
          (λ (l : Contains (c ∷ []) w.0). let u = fh.covered v (subst (λ z. IsAssured g sure (g.child n z) m v) (sym (Contains-single c w.0 l)) w.2) in (u.0, Contains-append_second f h u.0 u.1, u.2))
          (Contains-append cs (c ∷ []) w.0 w.1)

  no_reply : (n : N) (m : ℕ) → IsFrontOf (AssuredByReply g sure n m []) (replicate (length (g.states n)) true ∷ [])
  no_reply n m = subst (λ u. IsFrontOf (AssuredByReply g sure n m []) (u ∷ [])) (sym (replicate-map true (g.states n)))
      (front_single (AssuredByReply g sure n m []) (map (λ s. true) (g.states n))
      (length-map (g.states n) (λ s. true), λ c k. absurd (Contains-nil c k))
      (λ v w. Dominates-all (g.states n) v (sym w.0)))

  -- the branch for a card
  pub branch_for : (bs : Branches S C) (n : N) (m : ℕ) (c : C) → Contains (cards_of bs) c → AreLines g sure bs n m
      → (p : Line S C) × IsLine g sure p (g.child n c) m × ((s : S) → SecureEach g bs s → g.is_legal c s ≡ true → Secures g p (g.after c s))
  branch_for NoBranch n m c k fit = absurd (Contains-nil c k)
  branch_for (Branch d p bs) n m c k fit = ⊎_elim
      (λ (same : d ≡ c). subst (λ x. (q : Line S C) × IsLine g sure q (g.child n x) m × ((s : S) → SecureEach g (Branch d p bs) s → g.is_legal x s ≡ true → Secures g q (g.after x s))) same (p, fit.0, λ s h legal. h.0 legal))
      (λ (later : Contains (cards_of bs) c). let r = branch_for bs n m c later fit.1 in (r.0, r.1, λ s h legal. r.2 s h.1 legal))
      (Contains-cons d (cards_of bs) c k)

  module _ (Sound : N → Type 0) (law : IsLawful g Sound) where
    all_cards : (n : N) (m : ℕ) (f : List Vector) → Sound n → g.is_decided n ≡ false → sure n ≡ false → g.is_ours n ≡ true
        → IsFrontOf (AssuredByCard g sure n m (g.choices n)) f → IsAssuredFront g sure n (suc m) f
    all_cards n m f sound live unsure ours a = front_same (AssuredByCard g sure n m (g.choices n)) (IsAssured g sure n (suc m)) f to (λ v w. back v w.0 w.1 w.2) a
      where
        to : (v : Vector) → AssuredByCard g sure n m (g.choices n) v → IsAssured g sure n (suc m) v
        to v w = (
          Move w.0 w.2.0,
          (live, ours, w.1, w.2.1),
          zip_of_map (λ s. g.after w.0 s) (λ t. Secures g w.2.0 t) v (g.states n) (subst (λ ss. AtOnes (λ t. Secures g w.2.0 t) v ss) (states-child g Sound law n w.0 sound ours w.1) w.2.2),
        )

        back : (v : Vector) (p : Line S C) → IsLine g sure p n (suc m) → AtOnes (λ s. Secures g p s) v (g.states n) → AssuredByCard g sure n m (g.choices n) v
        back v Claim fit z = absurd (⊎_elim (λ (e : g.is_decided n ≡ true). true≢false (sym e ∙ live)) (λ (e : sure n ≡ true). true≢false (sym e ∙ unsure)) fit)
        back v (PlayFor t) fit z = absurd fit
        back v (Move c p) fit z = (
          c,
          fit.2,
          (p, fit.3, subst (λ ss. AtOnes (λ t. Secures g p t) v ss) (sym (states-child g Sound law n c sound ours fit.2)) (zip_map (λ s. g.after c s) (λ t. Secures g p t) v (g.states n) z)),
        )
        back v (Wait bs) fit z = absurd (true≢false (sym ours ∙ fit.1))

    length_mask : (n : N) (c : C) → length (mask g n c) ≡ length (g.states n)
    length_mask n c = length-map (g.states n) (λ s. g.is_legal c s)

    length_child : (n : N) (c : C) → Sound n → Contains (g.choices n) c → length (g.states (g.child n c)) ≡ ones_of (mask g n c)
    length_child n c sound choice = ap (λ (ss : List S). length ss) (law.keeps n c sound choice) ∙ length-map (filter (λ s. g.is_legal c s) (g.states n)) (λ s. g.after c s) ∙ length_kept (λ s. g.is_legal c s) (g.states n)

    more_replies : (n : N) (m : ℕ) (cs : List C) (c : C) (f h join : List Vector) → Sound n → Contains (g.choices n) c → IsFrontOf (AssuredByReply g sure n m cs) f
        → IsAssuredFront g sure (g.child n c) m h → IsReduced (meets f (spreads (mask g n c) h)) join → IsFrontOf (AssuredByReply g sure n m (cs ++ c ∷ [])) join
    more_replies n m cs c f h join sound choice ff fh r = front_grows (Contains (meets f (spreads (mask g n c) h))) (AssuredByReply g sure n m (cs ++ c ∷ [])) join within above r
      where
        met : (u w : Vector) → AssuredByReply g sure n m cs u → IsAssured g sure (g.child n c) m w → AssuredByReply g sure n m (cs ++ c ∷ []) (meet_of u (spread_of w (mask g n c)))
        met u w first second =
            let few : length w ≡ ones_of (mask g n c) = length_assured (g.child n c) m w second ∙ length_child n c sound choice in
            let wide : length u ≡ length (spread_of w (mask g n c)) = first.0 ∙ sym (length_spread w (mask g n c) few ∙ length_mask n c) in
            let v = meet_of u (spread_of w (mask g n c)) in (
              length-meet_of u (spread_of w (mask g n c)) wide ∙ first.0,
              λ d k. ⊎_elim
                  (λ (l : Contains cs d). lower (g.child n d) m (restrict_of u (mask g n d)) (restrict_of v (mask g n d)) (restrict_below u v (mask g n d) (meet_first u (spread_of w (mask g n c)) wide)) (first.1 d l))
                  (λ (l : Contains (c ∷ []) d). subst (λ z. IsAssured g sure (g.child n z) m (restrict_of v (mask g n z))) (Contains-single c d l)
                  (lower (g.child n c) m w (restrict_of v (mask g n c)) (spread_down w v (mask g n c) few (meet_second u (spread_of w (mask g n c)) wide)) second))
                  (Contains-append cs (c ∷ []) d k),
            )

        within : (v : Vector) → Contains (meets f (spreads (mask g n c) h)) v → AssuredByReply g sure n m (cs ++ c ∷ []) v
        within v k =
            let parts = Contains-of_meets f (spreads (mask g n c) h) v k in
            let x = Contains-of_map (λ z. spread_of z (mask g n c)) h parts.1 parts.3 in
            subst (λ z. AssuredByReply g sure n m (cs ++ c ∷ []) z) (ap (λ (z : Vector). meet_of parts.0 z) x.2 ∙ parts.4)
            (met parts.0 x.0 (ff.reached parts.0 parts.2) (fh.reached x.0 x.1))

        above : (v : Vector) → AssuredByReply g sure n m (cs ++ c ∷ []) v → (u : Vector) × Contains (meets f (spreads (mask g n c) h)) u × Dominates u v
        above v w =
            let u = ff.covered v (w.0, λ d l. w.1 d (Contains-append_first cs (c ∷ []) d l)) in
            let x = fh.covered (restrict_of v (mask g n c)) (w.1 c (Contains-append_second cs (c ∷ []) c (Contains-here c []))) in (
              meet_of u.0 (spread_of x.0 (mask g n c)),
              Contains-meets f (spreads (mask g n c) h) u.0 (spread_of x.0 (mask g n c)) u.1 (Contains-map (λ z. spread_of z (mask g n c)) h x.0 x.1),
              Dominates-both u.0 (spread_of x.0 (mask g n c)) v u.2 (spread_up x.0 v (mask g n c) (w.0 ∙ sym (length_mask n c)) x.2),
            )

    all_replies : (n : N) (m : ℕ) (f : List Vector) → Sound n → g.is_decided n ≡ false → sure n ≡ false → g.is_ours n ≡ false
        → IsFrontOf (AssuredByReply g sure n (suc m) (g.choices n)) f → IsAssuredFront g sure n (suc m) f
    all_replies n m f sound live unsure theirs a = front_same (AssuredByReply g sure n (suc m) (g.choices n)) (IsAssured g sure n (suc m)) f to (λ v w. back v w.0 w.1 w.2) a
      where
        to : (v : Vector) → AssuredByReply g sure n (suc m) (g.choices n) v → IsAssured g sure n (suc m) v
        to v w =
            let bs = branches_from
            (λ bs. AreLines g sure bs n (suc m) × AtOnes (λ s. SecureEach g bs s) v (g.states n))
            (λ c p. IsLine g sure p (g.child n c) (suc m) × AtOnes (λ s. g.is_legal c s ≡ true → Secures g p (g.after c s)) v (g.states n))
            (tt, zip_any (λ s. SecureEach g NoBranch s) v (g.states n) (λ s. tt) w.0)
            (λ c p bs ok others. (
              (ok.0, others.0),
              zip_both (λ s. g.is_legal c s ≡ true → Secures g p (g.after c s)) (λ s. SecureEach g bs s) (λ s. SecureEach g (Branch c p bs) s) v (g.states n) (λ s x y. (x, y)) ok.1 others.1,
            ))
            (g.choices n)
            (λ c choice.
            let q = w.1 c choice in (
              q.0,
              (q.1, zip_unrestrict (λ s. g.after c s) (λ s. g.is_legal c s) (λ t. Secures g q.0 t) v (g.states n) w.0 (subst (λ ss. AtOnes (λ t. Secures g q.0 t) (restrict_of v (mask g n c)) ss) (law.keeps n c sound choice) q.2)),
            )) in
            (Wait bs.0, (live, theirs, bs.1, bs.2.0), bs.2.1)

        back : (v : Vector) (p : Line S C) → IsLine g sure p n (suc m) → AtOnes (λ s. Secures g p s) v (g.states n) → AssuredByReply g sure n (suc m) (g.choices n) v
        back v Claim fit z = absurd (⊎_elim (λ (e : g.is_decided n ≡ true). true≢false (sym e ∙ live)) (λ (e : sure n ≡ true). true≢false (sym e ∙ unsure)) fit)
        back v (PlayFor t) fit z = absurd fit
        back v (Move c p) fit z = absurd (true≢false (sym fit.1 ∙ theirs))
        back v (Wait bs) fit z = (
          length_zip (λ s. SecureEach g bs s) v (g.states n) z,
          λ c choice.
              let r = branch_for bs n (suc m) c (subst (λ (x : List C). Contains x c) (sym fit.2) choice) fit.3 in (
                r.0,
                r.1,
                subst (λ ss. AtOnes (λ t. Secures g r.0 t) (restrict_of v (mask g n c)) ss) (sym (law.keeps n c sound choice))
                    (zip_restrict (λ s. g.after c s) (λ s. g.is_legal c s) (λ t. Secures g r.0 t) v (g.states n) (carried (λ s. SecureEach g bs s) (λ s. g.is_legal c s ≡ true → Secures g r.0 (g.after c s)) v (g.states n) z (λ s k h. r.2 s h))),
              ),
        )

    module _ (double : IsDoubleDummy g Sound) (sure_of : IsSureOfAll g Sound sure) where
      -- double dummy makes what is assured
      pub made : (n : N) (m : ℕ) (v : Vector) → Sound n → IsAssured g sure n m v → Dominates (results g n) v
      made n m v sound a =
          let q = as_plan g sure Sound law sure_of a.0 n m sound a.1 in
          dominated (λ s. g.makes s) (λ s. Secures g a.0 s) v (g.states n) a.2 (λ s k h. made_by g Sound law double q.0 n m s sound q.1 k (q.2 s k h))

      claimed : (n : N) (m : ℕ) → Sound n → (g.is_decided n ≡ true) ⊎ (sure n ≡ true) → IsAssuredFront g sure n m (results g n ∷ [])
      claimed n m sound ends = front_single (IsAssured g sure n m) (results g n)
          (Claim, ends, marked (λ s. g.makes s) (λ s. g.makes s ≡ true) (g.states n) (λ s k e. e))
          (λ v a. made n m v sound a)

      pub assured_steps : HasAssuredSteps g sure Sound
      assured_steps = record { claimed = claimed; open_stop = open_stop; no_card = no_card; more_cards = more_cards; all_cards = all_cards; no_reply = no_reply; more_replies = more_replies; all_replies = all_replies }
