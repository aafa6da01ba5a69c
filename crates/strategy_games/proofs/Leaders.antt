-- The best by a measure and the card named, as a loop over the cards of declarer's side finds them.
use Rattle.std.proofs.Common.{◌≡◌, ◌++◌, ◌∙◌, ◌≤◌, ◌<◌, ℕ, suc, true, false, List, [], ◌∷◌, Contains, refl, sym, ap, subst, ⊎_elim, arith}
use Rattle.std.proofs.lemmas.List.{append_assoc}
use Rattle.win_vectors.specs.Fronts.{Vector, Dominates, CoversAll, IsFrontOf}
use Rattle.win_vectors.specs.Weights.{IsMonotone}
use Rattle.strategy_games.specs.Games.{Game, IsLawful, IsDoubleDummy, IsSettled}
use Rattle.strategy_games.specs.Plans.{CanWin, IsFront, IsBelow}
use Rattle.strategy_games.specs.Joins.{WinsByCard}
use Rattle.strategy_games.specs.Choosing.{IsFirstOf, HasMeasure, IsBestBy, IsNamedBy, IsLeader}
use Rattle.strategy_games.specs.SearchLaws.{HasLeaders}
use Rattle.strategy_games.proofs.Lists.{Contains-nil, Contains-single, Contains-append, Contains-append_first, split_cases, split_at, first_is_member}
use Rattle.strategy_games.proofs.Nodes.{front_exists, card_wins}
use Rattle.strategy_games.proofs.Measures.{best_exists, best_most, never_rises, some_keeps}
use Rattle.strategy_games.proofs.Cuts.{same_front}

module _ {X : Type 0} (P : X → Type 0) where
  -- the first stays the first when others come after,
  first_longer : (xs ys : List X) (x : X) → IsFirstOf P xs x → IsFirstOf P (xs ++ ys) x
  first_longer xs ys x f = (
    f.0,
    f.1 ++ ys,
    ap (λ (l : List X). l ++ ys) f.2 ∙ append_assoc f.0 (x ∷ f.1) ys,
    f.3,
    f.4,
  )

  -- and the last is the first where it holds of none before.
  first_last : (xs : List X) (x : X) → ((y : X) → Contains xs y → P y → ⊥) → P x
      → IsFirstOf P (xs ++ x ∷ []) x
  first_last xs x none p = (xs, [], refl, none, p)

module _ {N S C : Type 0} (g : Game N S C) (measure : Vector → ℕ) where
  -- what some cards and one more measure at most
  at_most : (n : N) (m b : ℕ) (cs : List C) (d : C)
      → ((e : C) (k : ℕ) → Contains cs e → HasMeasure g measure (g.child n e) m k → k ≤ b)
      → ((k : ℕ) → HasMeasure g measure (g.child n d) m k → k ≤ b)
      → (e : C) (k : ℕ) → Contains (cs ++ d ∷ []) e → HasMeasure g measure (g.child n e) m k → k ≤ b
  at_most n m b cs d before here e k mem h = ⊎_elim (λ (l : Contains cs e). before e k l h)
      (λ (l : Contains (d ∷ []) e). here k
      (subst (λ z. HasMeasure g measure (g.child n z) m k) (sym (Contains-single d e l)) h))
      (Contains-append cs (d ∷ []) e mem)

  first : (n : N) (m b : ℕ) (c : C) → IsBestBy g measure (g.child n c) m b
      → IsLeader g measure n m (c ∷ []) b c
  first n m b c best = (
    at_most n m b [] c (λ e k mem h. absurd (Contains-nil e mem)) best.1,
    first_last (λ d. HasMeasure g measure (g.child n d) m b) [] c
        (λ e mem h. Contains-nil e mem) best.0,
  )

  better : (n : N) (m b k : ℕ) (cs : List C) (c d : C) → IsLeader g measure n m cs b c
      → IsBestBy g measure (g.child n d) m k → b < k → IsLeader g measure n m (cs ++ d ∷ []) k d
  better n m b k cs c d lead best more = (
    at_most n m k cs d (λ e j mem h. let most = lead.0 e j mem h in omega arith) best.1,
    first_last (λ e. HasMeasure g measure (g.child n e) m k) cs d
        (λ e mem h. let most = lead.0 e k mem h in omega arith) best.0,
  )

  no_better : (n : N) (m b k : ℕ) (cs : List C) (c d : C) → IsLeader g measure n m cs b c
      → IsBestBy g measure (g.child n d) m k → k ≤ b → IsLeader g measure n m (cs ++ d ∷ []) b c
  no_better n m b k cs c d lead best less = (
    at_most n m b cs d lead.0 (λ j h. let most = best.1 j h in omega arith),
    first_longer (λ e. HasMeasure g measure (g.child n e) m b) cs (d ∷ []) c lead.1,
  )

  module _ (Sound : N → Type 0) (law : IsLawful g Sound) (monotone : IsMonotone measure) where
    -- the cards so far win nothing that measures more than the leader's
    lead_most : (n : N) (m b : ℕ) (cs : List C) (c : C) → Sound n
        → ((e : C) → Contains cs e → Contains (g.choices n) e) → IsLeader g measure n m cs b c
        → (v : Vector) → WinsByCard g n m cs v → measure v ≤ b
    lead_most n m b cs c sound within lead v w =
        let h = front_exists g Sound law (g.child n w.0) m (law.holds n w.0 sound (within w.0 w.1)) in
        let x = h.1.covered v w.2 in
        let up = monotone x.0 v x.2 in
        let most = lead.0 w.0 (measure x.0) w.1 (h.0, h.1, x.0, x.1, refl) in
        omega arith

    -- what such a front covers measures no more either
    below_most : (n : N) (m b : ℕ) (cs : List C) (c d : C) (f : List Vector) → Sound n
        → ((e : C) → Contains cs e → Contains (g.choices n) e) → IsLeader g measure n m cs b c
        → IsFrontOf (WinsByCard g n m cs) f → IsBelow g (g.child n d) m f
        → (k : ℕ) → HasMeasure g measure (g.child n d) m k → k ≤ b
    below_most n m b cs c d f sound within lead a below k h =
        let p = h.1.reached h.2 h.3 in
        let u = below p.0 p.1 in
        let up = monotone u.0 h.2 (subst (λ z. Dominates u.0 z) p.2 u.2) in
        let most = lead_most n m b cs c sound within lead u.0 (a.reached u.0 u.1) in
        let is = h.4 in
        omega arith

    covered : (n : N) (m b : ℕ) (cs : List C) (c d : C) (f : List Vector) → Sound n
        → ((e : C) → Contains cs e → Contains (g.choices n) e) → IsLeader g measure n m cs b c
        → IsFrontOf (WinsByCard g n m cs) f → IsBelow g (g.child n d) m f
        → IsLeader g measure n m (cs ++ d ∷ []) b c
    covered n m b cs c d f sound within lead a below = (
      at_most n m b cs d lead.0 (below_most n m b cs c d f sound within lead a below),
      first_longer (λ e. HasMeasure g measure (g.child n e) m b) cs (d ∷ []) c lead.1,
    )

    module _ (settled : IsSettled g Sound) where
      -- what a child wins measures no more than the best
      kept_most : (n : N) (m b : ℕ) (d : C) (v : Vector) → Sound n → g.is_ours n ≡ true
          → Contains (g.choices n) d → IsBestBy g measure n (suc m) b → CanWin g (g.child n d) m v
          → measure v ≤ b
      kept_most n m b d v sound ours mem best w =
          let p = card_wins g Sound law settled n m v sound ours (d, mem, w) in
          let most = best_most g measure monotone n (suc m) b p.0 best p.1 in
          let is = ap measure p.2 in
          omega arith

      -- a card whose child such a front covers isn't named
      not_named : (n : N) (m : ℕ) (cs later : List C) (d : C) (f : List Vector)
          → Sound n → g.is_ours n ≡ true → g.choices n ≡ cs ++ d ∷ later → (Contains cs d → ⊥)
          → IsFrontOf (WinsByCard g n m cs) f → IsBelow g (g.child n d) m f
          → IsNamedBy g measure n (suc m) d → ⊥
      not_named n m cs later d f sound ours split new a below named =
          let h = named.2.4 in
          let p = h.1.reached h.2 h.3 in
          let u = below p.0 p.1 in
          let w = a.reached u.0 u.1 in
          let mem : Contains (g.choices n) w.0 = subst (λ (l : List C). Contains l w.0) (sym split)
          (Contains-append_first cs (d ∷ later) w.0 w.1) in
          let i = front_exists g Sound law (g.child n w.0) m (law.holds n w.0 sound mem) in
          let x = i.1.covered u.0 w.2 in
          let least = monotone u.0 h.2 (subst (λ z. Dominates u.0 z) p.2 u.2) in
          let less = monotone x.0 u.0 x.2 in
          let most = kept_most n m named.0 w.0 x.0 sound ours mem named.1 (i.1.reached x.0 x.1) in
          let is = h.4 in
          let keeps : HasMeasure g measure (g.child n w.0) m named.0 = (i.0, i.1, x.0, x.1, omega arith) in
          let at = split_at cs w.0 w.1 in
          let places : at.0 ++ w.0 ∷ (at.1 ++ d ∷ later) ≡ named.2.0 ++ d ∷ named.2.1
          = sym (append_assoc at.0 (w.0 ∷ at.1) (d ∷ later))
          ∙ ap (λ (l : List C). l ++ d ∷ later) (sym at.2) ∙ sym split ∙ named.2.2 in
          let among : Contains at.0 d → Contains cs d
          = λ k. subst (λ (l : List C). Contains l d) (sym at.2) (Contains-append_first at.0 (w.0 ∷ at.1) d k) in
          ⊎_elim (λ (e : w.0 ≡ d). new (subst (Contains cs) e w.1))
          (⊎_elim (λ (k : Contains named.2.0 w.0). named.2.3 w.0 k keeps) (λ (k : Contains at.0 d). new (among k)))
          (split_cases at.0 named.2.0 w.0 d (at.1 ++ d ∷ later) named.2.1 places)

      all : (n : N) (m b : ℕ) (c : C) → Sound n → g.is_over n ≡ false → g.is_ours n ≡ true
          → IsLeader g measure n m (g.choices n) b c
          → IsBestBy g measure n (suc m) b × IsNamedBy g measure n (suc m) c
      all n m b c sound on ours lead =
          let best = best_exists g measure Sound law n (suc m) sound in
          let k = some_keeps g measure Sound law settled monotone n m best.0 sound on ours best.1 in
          let up = lead.0 k.0 best.0 k.1 k.2 in
          let mem = first_is_member (λ d. HasMeasure g measure (g.child n d) m b) (g.choices n) c lead.1 in
          let h = lead.1.4 in
          let down = kept_most n m best.0 c h.2 sound ours mem best.1 (h.1.reached h.2 h.3) in
          let is = h.4 in
          let same : best.0 ≡ b = omega arith in
          let is_best = subst (IsBestBy g measure n (suc m)) same best.1 in
          (is_best, (b, is_best, lead.1))

      -- a leader whose measure no later card's child exceeds leads all
      leads_all : (n : N) (m b : ℕ) (cs later : List C) (c : C) → Sound n → g.is_over n ≡ false
          → g.is_ours n ≡ true → g.choices n ≡ cs ++ later → IsLeader g measure n m cs b c
          → ((v : Vector) → CanWin g n (suc m) v → measure v ≤ b)
          → IsBestBy g measure n (suc m) b × IsNamedBy g measure n (suc m) c
      leads_all n m b cs later c sound on ours split lead most = all n m b c sound on ours (
        λ d k mem h.
            let w = card_wins g Sound law settled n m h.2 sound ours (d, mem, h.1.reached h.2 h.3) in
            let less = most h.2 w in
            let is = h.4 in omega arith,
        subst (λ (l : List C). IsFirstOf (λ d. HasMeasure g measure (g.child n d) m b) l c) (sym split)
            (first_longer (λ d. HasMeasure g measure (g.child n d) m b) cs later c lead.1),
      )

      module _ (double : IsDoubleDummy g Sound) where
        stop_by_front : (n : N) (m b : ℕ) (cs later : List C) (c : C) (f less : List Vector)
            → Sound n → g.is_over n ≡ false → g.is_ours n ≡ true → g.choices n ≡ cs ++ later
            → IsLeader g measure n m cs b c → IsFrontOf (WinsByCard g n m cs) f
            → IsFront g n m less → CoversAll f less
            → IsBestBy g measure n (suc m) b × IsNamedBy g measure n (suc m) c
        stop_by_front n m b cs later c f less sound on ours split lead a front covers =
            let within : (e : C) → Contains cs e → Contains (g.choices n) e
            = λ e mem. subst (λ (l : List C). Contains l e) (sym split) (Contains-append_first cs later e mem) in
            let whole = same_front g Sound law double settled n m cs f less sound on ours within a front covers in
            leads_all n m b cs later c sound on ours split lead (λ v w.
            let u = whole.covered v w in
            let up = monotone u.0 v u.2 in
            let most = lead_most n m b cs c sound within lead u.0 (a.reached u.0 u.1) in
            omega arith)

        stop_by_best : (n : N) (m b less : ℕ) (cs later : List C) (c : C)
            → Sound n → g.is_over n ≡ false → g.is_ours n ≡ true → g.choices n ≡ cs ++ later
            → IsLeader g measure n m cs b c → IsBestBy g measure n m less → less ≤ b
            → IsBestBy g measure n (suc m) b × IsNamedBy g measure n (suc m) c
        stop_by_best n m b less cs later c sound on ours split lead best reached =
            let more = best_exists g measure Sound law n (suc m) sound in
            let fewer = never_rises g measure Sound law monotone double n m more.0 less sound more.1 best in
            leads_all n m b cs later c sound on ours split lead (λ v w.
            let most = best_most g measure monotone n (suc m) more.0 w.0 more.1 w.1 in
            let is = ap measure w.2 in
            omega arith)

        pub leaders : HasLeaders g Sound measure
        leaders = record {
          first = first;
          better = better;
          no_better = no_better;
          covered = covered;
          all = all;
          same_front = stop_by_front;
          same_best = stop_by_best;
          not_named = not_named;
        }
