-- Some of a node's choices are enough.
use Rattle.std.proofs.Common.{◌≡◌, ◌⊎◌, ◌∙◌, ℕ, suc, true, false, List, length, Contains, refl, sym, ap, subst, true≢false, inr, ⊎_elim}
use Rattle.std.proofs.lemmas.List.{length-map}
use Rattle.win_vectors.specs.Vectors.{spread_of}
use Rattle.win_vectors.specs.Fronts.{Vector, Dominates, CoversAll, IsFrontOf, spreads}
use Rattle.strategy_games.specs.Games.{Game, mask, IsLawful, IsSettled}
use Rattle.strategy_games.specs.Plans.{Plan, Stop, Play, Hear, wins, wins_vector, IsFront, IsBelow}
use Rattle.strategy_games.specs.Joins.{WinsByCard, WinsByReply}
use Rattle.strategy_games.specs.SearchLaws.{HasEnoughCards}
use Rattle.strategy_games.proofs.Lists.{Contains-map}
use Rattle.strategy_games.proofs.Vectors.{Dominates-refl, Dominates-trans, Dominates-spread}
use Rattle.strategy_games.proofs.Fronts.{front_grows, front_level}
use Rattle.strategy_games.proofs.Masks.{Dominates-map}
use Rattle.strategy_games.proofs.Nodes.{front_exists, all_cards, all_replies}
use Rattle.strategy_games.proofs.Replying.{Reaches, spread_over, replies_over}
use Rattle.strategy_games.proofs.Cuts.{some_replies}

module _ {N S C : Type 0} (g : Game N S C) (Sound : N → Type 0) (law : IsLawful g Sound) where
  one_reply : (n : N) (m : ℕ) (c : C) (beta alpha : List Vector) → Sound n
      → g.is_decided n ≡ false → g.is_ours n ≡ false → Contains (g.choices n) c
      → IsBelow g (g.child n c) (suc m) beta → CoversAll alpha (spreads (mask g n c) beta)
      → IsBelow g n (suc m) alpha
  one_reply n m c beta alpha sound live theirs mem below covers Stop fit =
      absurd (true≢false (sym fit ∙ live))
  one_reply n m c beta alpha sound live theirs mem below covers (Play d q) fit =
      absurd (true≢false (sym fit.1 ∙ theirs))
  one_reply n m c beta alpha sound live theirs mem below covers (Hear rs) fit =
      let q = spread_over g Sound law rs n (suc m) c sound mem
      (subst (λ (l : List C). Contains l c) (sym fit.2) mem) fit.3 in
      let won = wins_vector g q.0 (g.child n c) in
      let u = below q.0 q.1 in
      let w = covers (spread_of u.0 (mask g n c))
      (Contains-map (λ v. spread_of v (mask g n c)) beta u.0 u.1) in (
        w.0,
        w.1,
        Dominates-trans w.0 (spread_of u.0 (mask g n c)) (wins_vector g (Hear rs) n) w.2
            (Dominates-trans (spread_of u.0 (mask g n c)) (spread_of won (mask g n c))
            (wins_vector g (Hear rs) n) (Dominates-spread u.0 won (mask g n c) u.2) q.2),
      )

  -- a vector that replies to some cards win is won by replies to all, where each card has an equal
  with_equals : (n : N) (m : ℕ) (cs : List C) → Sound n
      → ((c : C) → Contains cs c → Contains (g.choices n) c)
      → ((c : C) → Contains (g.choices n) c → (d : C) × Contains cs d × (mask g n c ≡ mask g n d)
      × ((h : List Vector) → IsFront g (g.child n d) m h → IsFront g (g.child n c) m h))
      → (v : Vector) → WinsByReply g n m cs v
      → (u : Vector) × WinsByReply g n m (g.choices n) u × Dominates u v
  with_equals n m cs sound within equal v w =
      let rs = replies_over g Sound law n m v (g.choices n) sound
      (sym (ap (λ (z : Vector). length z) w.3) ∙ length-map (g.states n) (λ s. wins g (Hear w.0) s)) each in
      (wins_vector g (Hear rs.0) n, (rs.0, rs.1, rs.2.0, refl), rs.2.1)
    where
      each : (c : C) → Contains (g.choices n) c → (q : Plan C) × Reaches g Sound law n m v c q
      each c mem =
          let d = equal c mem in
          let q = spread_over g Sound law w.0 n m d.0 sound (within d.0 d.1)
          (subst (λ (l : List C). Contains l d.0) (sym w.1) d.1) w.2 in
          let won = wins_vector g q.0 (g.child n d.0) in
          let h = front_exists g Sound law (g.child n d.0) m (law.holds n d.0 sound (within d.0 d.1)) in
          let x = h.1.covered won (q.0, q.1, refl) in
          let p = (d.3 h.0 h.1).reached x.0 x.1 in
          let over : Dominates (spread_of x.0 (mask g n d.0)) v
          = subst (Dominates (spread_of x.0 (mask g n d.0))) w.3
          (Dominates-trans (spread_of x.0 (mask g n d.0)) (spread_of won (mask g n d.0))
          (wins_vector g (Hear w.0) n) (Dominates-spread x.0 won (mask g n d.0) x.2) q.2) in (
            p.0,
            (
              mem,
              p.1,
              subst (λ z. Dominates (spread_of z (mask g n c)) v) (sym p.2)
                  (subst (λ z. Dominates (spread_of x.0 z) v) (sym d.2) over),
            ),
          )

  without_equals : (n : N) (m : ℕ) (cs : List C) → ((c : C) → Contains cs c → Contains (g.choices n) c)
      → (v : Vector) → WinsByReply g n m (g.choices n) v
      → (u : Vector) × WinsByReply g n m cs u × Dominates u v
  without_equals n m cs within v w =
      let r = some_replies g w.0 n m cs
      (λ c mem. subst (λ (l : List C). Contains l c) (sym w.1) (within c mem)) w.2 in (
        wins_vector g (Hear r.0) n,
        (r.0, r.1, r.2.0, refl),
        subst (Dominates (wins_vector g (Hear r.0) n)) w.3
            (Dominates-map (λ s. wins g (Hear r.0) s) (λ s. wins g (Hear w.0) s) (g.states n)
            (λ s k h. r.2.1 s h)),
      )

  module _ (settled : IsSettled g Sound) where
    cards : (n : N) (m : ℕ) (cs : List C) (f : List Vector) → Sound n
        → g.is_over n ≡ false → g.is_ours n ≡ true
        → ((c : C) → Contains cs c → Contains (g.choices n) c)
        → ((c : C) → Contains (g.choices n) c → Contains cs c ⊎ IsBelow g (g.child n c) m f)
        → IsFrontOf (WinsByCard g n m cs) f → IsFront g n (suc m) f
    cards n m cs f sound on ours within each a = all_cards g Sound law settled n m f sound on ours
        (front_grows (WinsByCard g n m cs) (WinsByCard g n m (g.choices n)) f
        (λ v w. (w.0, within w.0 w.1, w.2))
        (λ v w. ⊎_elim (λ (k : Contains cs w.0). (v, (w.0, k, w.2), Dominates-refl v))
        (λ (below : IsBelow g (g.child n w.0) m f).
        let u = below w.2.0 w.2.1 in
        (u.0, a.reached u.0 u.1, subst (Dominates u.0) w.2.2 u.2))
        (each w.0 w.1)) a)

    covering_cards : (n : N) (m : ℕ) (cs : List C) (f : List Vector) → Sound n
        → g.is_over n ≡ false → g.is_ours n ≡ true
        → ((c : C) → Contains cs c → Contains (g.choices n) c)
        → ((c : C) → Contains (g.choices n) c → (d : C) × Contains cs d
        × ((h : List Vector) → IsFront g (g.child n d) m h → IsBelow g (g.child n c) m h))
        → IsFrontOf (WinsByCard g n m cs) f → IsFront g n (suc m) f
    covering_cards n m cs f sound on ours within each a = cards n m cs f sound on ours within
        (λ c mem.
        let d = each c mem in
        let h = front_exists g Sound law (g.child n d.0) m (law.holds n d.0 sound (within d.0 d.1)) in
        inr (λ p fit.
        let u = d.2 h.0 h.1 p fit in
        let w = a.covered u.0 (d.0, d.1, h.1.reached u.0 u.1) in
        (w.0, w.1, Dominates-trans w.0 u.0 (wins_vector g p (g.child n c)) w.2 u.2))) a

    pub enough_cards : HasEnoughCards g Sound
    enough_cards = record {
      one_reply = one_reply;
      cards = cards;
      covering_cards = covering_cards;
      equal_replies = λ n m cs f sound on theirs within equal a.
          all_replies g Sound law settled n m f sound on theirs
          (front_level (WinsByReply g n (suc m) cs) (WinsByReply g n (suc m) (g.choices n)) f
          (with_equals n (suc m) cs sound within equal) (without_equals n (suc m) cs within) a);
      equal_cards = λ n m cs f sound on ours within equal a.
          covering_cards n m cs f sound on ours within
          (λ c mem.
          let d = equal c mem in
          (d.0, d.1, λ h is p fit. (d.2 h is).covered (wins_vector g p (g.child n c)) (p, fit, refl))) a;
    }
