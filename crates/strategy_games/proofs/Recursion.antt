-- The recursion on fronts, and that each node has a front.
use Rattle.std.proofs.Common.{◌≡◌, ◌++◌, ◌∙◌, ◌↔◌, ℕ, zero, suc, true, List, [], ◌∷◌, length, map, replicate, Contains, refl, sym, ap, ap₂, subst, true≢false, ⊎_elim}
use Rattle.win_vectors.specs.Vectors.{meet_of, spread_of}
use Rattle.win_vectors.specs.Fronts.{Vector, Dominates, Covers, IsFrontOf, IsReduced, meets, spreads}
use Rattle.strategy_games.specs.Games.{Game, mask, IsLawful}
use Rattle.strategy_games.specs.Plans.{Plan, Replies, Stop, Play, Hear, NoReply, Reply, cards_of, stops, Fits, FitEach, wins_vector, CanWin, IsFront, IsBelow}
use Rattle.strategy_games.specs.Joins.{unions, joins, AreFronts, WinsByCard, WinsByReply}
use Rattle.strategy_games.proofs.Lists.{Contains-here, Contains-there, Contains-nil, Contains-cons, Contains-single, Contains-append, Contains-append_first, Contains-append_second, Contains-map, Contains-of_map, AllZip-at, AllZip-of}
use Rattle.strategy_games.proofs.Vectors.{Dominates-refl, Dominates-meet, Dominates-spread}
use Rattle.strategy_games.proofs.Fronts.{front_single, front_grows, front_same, reduced_nil, Contains-meets, Contains-of_meets}
use Rattle.strategy_games.proofs.Masks.{replicate-map}
use Rattle.strategy_games.proofs.Wins.{with_reply, cards_of-with_reply, split_reply, FitEach-with_reply, FitEach-of_with_reply, wins_vector-stop, wins_vector-first, wins_vector-last}

-- ---- unions

pub Contains-unions : (fs : List (List Vector)) (f : List Vector) (v : Vector) → Contains fs f → Contains f v → Contains (unions fs) v
Contains-unions [] f v m k = absurd (Contains-nil f m)
Contains-unions (h ∷ fs) f v m k = ⊎_elim (λ (e : h ≡ f). Contains-append_first h (unions fs) v (subst (λ z. Contains z v) (sym e) k)) (λ (l : Contains fs f). Contains-append_second h (unions fs) v (Contains-unions fs f v l k)) (Contains-cons h fs f m)

pub Contains-of_unions : (fs : List (List Vector)) (v : Vector) → Contains (unions fs) v → (f : List Vector) × Contains fs f × Contains f v
Contains-of_unions [] v m = absurd (Contains-nil v m)
Contains-of_unions (h ∷ fs) v m = ⊎_elim (λ (k : Contains h v). (h, Contains-here h fs, k)) (λ (k : Contains (unions fs) v). let r = Contains-of_unions fs v k in (r.0, Contains-there h fs r.0 r.1, r.2)) (Contains-append h (unions fs) v m)

module _ {N S C : Type 0} (g : Game N S C) where
  -- ---- where the plan stops

  pub CanWin-stop : (n : N) (m : ℕ) (v : Vector) → stops g n m ≡ true → CanWin g n m v → wins_vector g Stop n ≡ v
  CanWin-stop n m v e c = go c.0 m e c.1 ∙ c.2
    where
      go : (p : Plan C) (m : ℕ) → stops g n m ≡ true → Fits g p n m → wins_vector g Stop n ≡ wins_vector g p n
      go Stop m e h = refl
      go (Play c q) zero e h = absurd h
      go (Play c q) (suc m) e h = absurd (true≢false (sym e ∙ h.0))
      go (Hear rs) m e h = absurd (true≢false (sym e ∙ h.0))

  -- the front is double dummy's results
  pub front-stopped : (n : N) (m : ℕ) → stops g n m ≡ true → IsFront g n m (map (λ s. g.makes s) (g.states n) ∷ [])
  front-stopped n m e = front_single (CanWin g n m) (map (λ s. g.makes s) (g.states n)) (Stop, e, wins_vector-stop g n)
      (λ v c. subst (λ z. Dominates z v) (wins_vector-stop g n) (subst (λ z. Dominates z v) (sym (CanWin-stop n m v e c)) (Dominates-refl v)))

  -- ---- card by card, at declarer's side

  pub no_card : (n : N) (m : ℕ) → IsFrontOf (WinsByCard g n m []) []
  no_card n m = front_same (Contains []) (WinsByCard g n m []) [] (λ v k. absurd (Contains-nil v k)) (λ v w. absurd (Contains-nil w.0 w.1)) reduced_nil

  pub more_cards : (n : N) (m : ℕ) (cs : List C) (c : C) (f h union : List Vector)
      → IsFrontOf (WinsByCard g n m cs) f → IsFront g (g.child n c) m h → IsReduced (f ++ h) union → IsFrontOf (WinsByCard g n m (cs ++ c ∷ [])) union
  more_cards n m cs c f h union ff fh r = front_grows (Contains (f ++ h)) (WinsByCard g n m (cs ++ c ∷ [])) union within above r
    where
      within : (v : Vector) → Contains (f ++ h) v → WinsByCard g n m (cs ++ c ∷ []) v
      within v k = ⊎_elim
          (λ (l : Contains f v). let w = ff.reached v l in (w.0, Contains-append_first cs (c ∷ []) w.0 w.1, w.2))
          (λ (l : Contains h v). (c, Contains-append_second cs (c ∷ []) c (Contains-here c []), fh.reached v l))
          (Contains-append f h v k)

      above : (v : Vector) → WinsByCard g n m (cs ++ c ∷ []) v → (u : Vector) × Contains (f ++ h) u × Dominates u v
      above v w = ⊎_elim
          (λ (l : Contains cs w.0). let u = ff.covered v (w.0, l, w.2) in (u.0, Contains-append_first f h u.0 u.1, u.2))
          (λ (l : Contains (c ∷ []) w.0). let u = fh.covered v (subst (λ z. CanWin g (g.child n z) m v) (sym (Contains-single c w.0 l)) w.2) in (u.0, Contains-append_second f h u.0 u.1, u.2))
          (Contains-append cs (c ∷ []) w.0 w.1)

  pub covered_card : (n : N) (m : ℕ) (cs : List C) (c : C) (f : List Vector) → IsFrontOf (WinsByCard g n m cs) f → IsBelow g (g.child n c) m f → IsFrontOf (WinsByCard g n m (cs ++ c ∷ [])) f
  covered_card n m cs c f ff below = front_grows (WinsByCard g n m cs) (WinsByCard g n m (cs ++ c ∷ [])) f
      (λ v w. (w.0, Contains-append_first cs (c ∷ []) w.0 w.1, w.2))
      (λ v w. ⊎_elim
      (λ (l : Contains cs w.0). (v, (w.0, l, w.2), Dominates-refl v))
      (λ (l : Contains (c ∷ []) w.0).
      let p = subst (λ z. CanWin g (g.child n z) m v) (sym (Contains-single c w.0 l)) w.2 in
      let u = below p.0 p.1 in
      (u.0, ff.reached u.0 u.1, subst (Dominates u.0) p.2 u.2))
      (Contains-append cs (c ∷ []) w.0 w.1)) ff

  pub any_order : (n : N) (m : ℕ) (cs ds : List C) (f : List Vector) → ((c : C) → Contains cs c ↔ Contains ds c) → IsFrontOf (WinsByCard g n m cs) f → IsFrontOf (WinsByCard g n m ds) f
  any_order n m cs ds f same a = front_same (WinsByCard g n m cs) (WinsByCard g n m ds) f (λ v w. (w.0, (same w.0).0 w.1, w.2)) (λ v w. (w.0, (same w.0).1 w.1, w.2)) a

  -- from the fronts of all children at once
  pub union_of : (n : N) (m : ℕ) (cs : List C) (fs : List (List Vector)) (f : List Vector) → AreFronts g n m cs fs → IsReduced (unions fs) f → IsFrontOf (WinsByCard g n m cs) f
  union_of n m cs fs f a r = front_grows (Contains (unions fs)) (WinsByCard g n m cs) f
      (λ v k. let h = Contains-of_unions fs v k in let c = AllZip-of (λ d i. IsFront g (g.child n d) m i) cs fs a h.0 h.1 in (c.0, c.1, c.2.reached v h.2))
      (λ v w. let h = AllZip-at (λ d i. IsFront g (g.child n d) m i) cs fs a w.0 w.1 in let u = h.2.covered v w.2 in (u.0, Contains-unions fs h.0 u.0 h.1 u.1, u.2)) r

  no_reply_set : (n : N) (m : ℕ) (v : Vector) → WinsByReply g n m [] v → map (λ s. true) (g.states n) ≡ v
  no_reply_set n m v w = go w.0 w.1 ∙ w.3
    where
      go : (rs : Replies C) → cards_of rs ≡ [] → map (λ s. true) (g.states n) ≡ wins_vector g (Hear rs) n
      go NoReply e = refl
      go (Reply c q rs) e = absurd cc

  pub no_reply : (n : N) (m : ℕ) → IsFrontOf (WinsByReply g n m []) (replicate (length (g.states n)) true ∷ [])
  no_reply n m = front_single (WinsByReply g n m []) (replicate (length (g.states n)) true) (NoReply, refl, tt, sym (replicate-map true (g.states n)))
      (λ v w. subst (λ z. Dominates (replicate (length (g.states n)) true) z) (replicate-map true (g.states n) ∙ no_reply_set n m v w) (Dominates-refl (replicate (length (g.states n)) true)))

  module _ (Sound : N → Type 0) (law : IsLawful g Sound) where
    pub more_replies : (n : N) (m : ℕ) (cs : List C) (c : C) (f h join : List Vector) → Sound n → Contains (g.choices n) c
        → IsFrontOf (WinsByReply g n m cs) f → IsFront g (g.child n c) m h → IsReduced (meets f (spreads (mask g n c) h)) join → IsFrontOf (WinsByReply g n m (cs ++ c ∷ [])) join
    more_replies n m cs c f h join sound mem ff fh r = front_grows (Contains (meets f (spreads (mask g n c) h))) (WinsByReply g n m (cs ++ c ∷ [])) join within above r
      where
        within : (v : Vector) → Contains (meets f (spreads (mask g n c) h)) v → WinsByReply g n m (cs ++ c ∷ []) v
        within v k =
            let parts = Contains-of_meets f (spreads (mask g n c) h) v k in
            let w = ff.reached parts.0 parts.2 in
            let x = Contains-of_map (λ z. spread_of z (mask g n c)) h parts.1 parts.3 in
            let q = fh.reached x.0 x.1 in (
              with_reply w.0 c q.0,
              cards_of-with_reply w.0 c q.0 ∙ ap (λ (l : List C). l ++ c ∷ []) w.1,
              FitEach-with_reply g w.0 c q.0 n m w.2 q.1,
              wins_vector-last g Sound law n c q.0 w.0 sound mem ∙ ap₂ meet_of w.3 (ap (λ (z : Vector). spread_of z (mask g n c)) q.2 ∙ x.2) ∙ parts.4,
            )

        above : (v : Vector) → WinsByReply g n m (cs ++ c ∷ []) v → (u : Vector) × Contains (meets f (spreads (mask g n c) h)) u × Dominates u v
        above v w =
            let s = split_reply w.0 cs c w.1 in
            let fit = FitEach-of_with_reply g s.0 c s.1 n m (subst (λ z. FitEach g z n m) s.3 w.2) in
            let a = ff.covered (wins_vector g (Hear s.0) n) (s.0, s.2, fit.0, refl) in
            let b = fh.covered (wins_vector g s.1 (g.child n c)) (s.1, fit.1, refl) in
            let is : meet_of (wins_vector g (Hear s.0) n) (spread_of (wins_vector g s.1 (g.child n c)) (mask g n c)) ≡ v = sym (wins_vector-last g Sound law n c s.1 s.0 sound mem) ∙ ap (λ (z : Replies C). wins_vector g (Hear z) n) (sym s.3) ∙ w.3 in (
              meet_of a.0 (spread_of b.0 (mask g n c)),
              Contains-meets f (spreads (mask g n c) h) a.0 (spread_of b.0 (mask g n c)) a.1 (Contains-map (λ z. spread_of z (mask g n c)) h b.0 b.1),
              subst (λ z. Dominates (meet_of a.0 (spread_of b.0 (mask g n c))) z) is (Dominates-meet a.0 (wins_vector g (Hear s.0) n) (spread_of b.0 (mask g n c)) (spread_of (wins_vector g s.1 (g.child n c)) (mask g n c)) a.2 (Dominates-spread b.0 (wins_vector g s.1 (g.child n c)) (mask g n c) b.2)),
            )

    -- every vector of the joins is won by replies to the cards,
    joins_within : (n : N) (m : ℕ) (cs : List C) (fs : List (List Vector)) → Sound n → ((c : C) → Contains cs c → Contains (g.choices n) c) → AreFronts g n m cs fs
        → (v : Vector) → Contains (joins (length (g.states n)) (map (λ c. mask g n c) cs) fs) v → WinsByReply g n m cs v
    joins_within n m [] [] sound in_choices a v k = (NoReply, refl, tt, sym (replicate-map true (g.states n)) ∙ Contains-single (replicate (length (g.states n)) true) v k)
    joins_within n m [] (f ∷ fs) sound in_choices a v k = elim a [ ]
    joins_within n m (c ∷ cs) [] sound in_choices a v k = elim a [ ]
    joins_within n m (c ∷ cs) (f ∷ fs) sound in_choices a v k =
        let parts = Contains-of_meets (joins (length (g.states n)) (map (λ d. mask g n d) cs) fs) (spreads (mask g n c) f) v k in
        let w = joins_within n m cs fs sound (λ d l. in_choices d (Contains-there c cs d l)) a.1 parts.0 parts.2 in
        let x = Contains-of_map (λ z. spread_of z (mask g n c)) f parts.1 parts.3 in
        let q = a.0.reached x.0 x.1 in (
          Reply c q.0 w.0,
          ap (λ (l : List C). c ∷ l) w.1,
          (q.1, w.2),
          wins_vector-first g Sound law n c q.0 w.0 sound (in_choices c (Contains-here c cs)) ∙ ap₂ meet_of w.3 (ap (λ (z : Vector). spread_of z (mask g n c)) q.2 ∙ x.2) ∙ parts.4,
        )

    -- and every such replies are dominated by one of them.
    joins_above : (n : N) (m : ℕ) (cs : List C) (fs : List (List Vector)) → Sound n → ((c : C) → Contains cs c → Contains (g.choices n) c) → AreFronts g n m cs fs
        → (rs : Replies C) → cards_of rs ≡ cs → FitEach g rs n m → Covers (joins (length (g.states n)) (map (λ c. mask g n c) cs) fs) (wins_vector g (Hear rs) n)
    joins_above n m [] (f ∷ fs) sound in_choices a rs e fit = elim a [ ]
    joins_above n m (c ∷ cs) [] sound in_choices a rs e fit = elim a [ ]
    joins_above n m [] [] sound in_choices a NoReply e fit = (replicate (length (g.states n)) true, Contains-here (replicate (length (g.states n)) true) [], subst (Dominates (replicate (length (g.states n)) true)) (replicate-map true (g.states n)) (Dominates-refl (replicate (length (g.states n)) true)))
    joins_above n m [] [] sound in_choices a (Reply d q rs) e fit = absurd cc
    joins_above n m (c ∷ cs) (f ∷ fs) sound in_choices a NoReply e fit = absurd cc
    joins_above n m (c ∷ cs) (f ∷ fs) sound in_choices a (Reply d q rs) e fit =
        let same : d ≡ c = cc in
        let tails : cards_of rs ≡ cs = cc in
        let u = joins_above n m cs fs sound (λ x l. in_choices x (Contains-there c cs x l)) a.1 rs tails fit.1 in
        let b = a.0.covered (wins_vector g q (g.child n c)) (q, subst (λ z. Fits g q (g.child n z) m) same fit.0, refl) in (
          meet_of u.0 (spread_of b.0 (mask g n c)),
          Contains-meets (joins (length (g.states n)) (map (λ x. mask g n x) cs) fs) (spreads (mask g n c) f) u.0 (spread_of b.0 (mask g n c)) u.1 (Contains-map (λ z. spread_of z (mask g n c)) f b.0 b.1),
          subst (Dominates (meet_of u.0 (spread_of b.0 (mask g n c)))) (sym (wins_vector-first g Sound law n c q rs sound (in_choices c (Contains-here c cs))) ∙ ap (λ (x : C). wins_vector g (Hear (Reply x q rs)) n) (sym same))
              (Dominates-meet u.0 (wins_vector g (Hear rs) n) (spread_of b.0 (mask g n c)) (spread_of (wins_vector g q (g.child n c)) (mask g n c)) u.2 (Dominates-spread b.0 (wins_vector g q (g.child n c)) (mask g n c) b.2)),
        )

    pub join_of : (n : N) (m : ℕ) (fs : List (List Vector)) (f : List Vector) → Sound n → AreFronts g n m (g.choices n) fs
        → IsReduced (joins (length (g.states n)) (map (λ c. mask g n c) (g.choices n)) fs) f → IsFrontOf (WinsByReply g n m (g.choices n)) f
    join_of n m fs f sound a r = front_grows (Contains (joins (length (g.states n)) (map (λ c. mask g n c) (g.choices n)) fs)) (WinsByReply g n m (g.choices n)) f
        (joins_within n m (g.choices n) fs sound (λ c k. k) a)
        (λ v w. let u = joins_above n m (g.choices n) fs sound (λ c k. k) a w.0 w.1 w.2 in (u.0, u.1, subst (Dominates u.0) w.3 u.2)) r
