-- Double dummy bounds every strategy, and a move more wins no new vector.
use Rattle.std.proofs.Common.{◌≡◌, ◌∙◌, ℕ, zero, suc, true, false, List, ◌∷◌, Contains, refl, sym, ap, subst, true≢false, ⊎_elim}
use Rattle.std.proofs.lemmas.Bool.{cases_Bool, and_parts, and_from, cond-true, cond-false}
use Rattle.win_vectors.specs.Fronts.{Vector, Dominates, CoversAll}
use Rattle.strategy_games.specs.Games.{Game, IsLawful, IsDoubleDummy}
use Rattle.strategy_games.specs.Plans.{Plan, Replies, Stop, Play, Hear, NoReply, Reply, cards_of, Fits, FitEach, wins, wins_vector, IsFront}
use Rattle.strategy_games.proofs.Lists.{Contains-here, Contains-there, Contains-nil, Contains-cons, All-at}
use Rattle.strategy_games.proofs.Vectors.{Dominates-trans}
use Rattle.strategy_games.proofs.Masks.{Dominates-map}
use Rattle.strategy_games.proofs.Wins.{wins-stop, wins-first, lets, Contains-after}

module _ {N S C : Type 0} (g : Game N S C) (Sound : N → Type 0) (law : IsLawful g Sound) where
  -- a card of declarer's side is legal in each layout
  pub our_card_legal : (n : N) (c : C) (s : S) → Sound n → g.is_ours n ≡ true → Contains (g.choices n) c → Contains (g.states n) s → g.is_legal c s ≡ true
  our_card_legal n c s sound ours mem k = All-at (λ t. g.is_legal c t ≡ true) (g.states n) (law.seen n c sound ours mem) s k

  module _ (double : IsDoubleDummy g Sound) where
    -- what a strategy wins, double dummy makes
    mutual
      pub made_by : (p : Plan C) (n : N) (m : ℕ) (s : S) → Sound n → Fits g p n m → Contains (g.states n) s → wins g p s ≡ true → g.makes s ≡ true
      made_by Stop n m s sound fit k h = sym (wins-stop g s) ∙ h
      made_by (Play c q) n zero s sound fit k h = absurd fit
      made_by (Play c q) n (suc m) s sound fit k h = double.ours n s c sound k fit.0 fit.1 fit.2
          (made_by q (g.child n c) m (g.after c s) (law.holds n c sound fit.2) fit.3 (Contains-after g Sound law n c s sound fit.2 k (our_card_legal n c s sound fit.1 fit.2 k)) h)
      made_by (Hear rs) n zero s sound fit k h = absurd (true≢false fit.0)
      made_by (Hear rs) n (suc m) s sound fit k h = double.theirs n s sound k fit.0 fit.1
          (λ c mem legal. made_each rs n (suc m) s sound (λ d l. subst (λ (x : List C). Contains x d) fit.2 l) fit.3 k h c (subst (λ (x : List C). Contains x c) (sym fit.2) mem) legal)

      pub made_each : (rs : Replies C) (n : N) (m : ℕ) (s : S) → Sound n → ((c : C) → Contains (cards_of rs) c → Contains (g.choices n) c) → FitEach g rs n m → Contains (g.states n) s → wins g (Hear rs) s ≡ true
          → (c : C) → Contains (cards_of rs) c → g.is_legal c s ≡ true → g.makes (g.after c s) ≡ true
      made_each NoReply n m s sound within fit k h c mem legal = absurd (Contains-nil c mem)
      made_each (Reply d q rs) n m s sound within fit k h c mem legal =
          let parts = and_parts (lets g d q s) (wins g (Hear rs) s) (sym (wins-first g d q rs s) ∙ h) in
          ⊎_elim
          (λ (same : d ≡ c).
          let legal_d : g.is_legal d s ≡ true = subst (λ x. g.is_legal x s ≡ true) (sym same) legal in
          let in_choices : Contains (g.choices n) d = within d (Contains-here d (cards_of rs)) in
          subst (λ x. g.makes (g.after x s) ≡ true) same
          (made_by q (g.child n d) m (g.after d s) (law.holds n d sound in_choices) fit.0 (Contains-after g Sound law n d s sound in_choices k legal_d)
          (sym (cond-true (g.is_legal d s) (wins g q (g.after d s)) true legal_d) ∙ parts.0)))
          (λ (later : Contains (cards_of rs) c). made_each rs n m s sound (λ x l. within x (Contains-there d (cards_of rs) x l)) fit.1 k parts.1 c later legal)
          (Contains-cons d (cards_of rs) c mem)

    -- with a move fewer some strategy wins at least as much
    mutual
      pub with_fewer : (p : Plan C) (n : N) (m : ℕ) → Sound n → Fits g p n (suc m) → (q : Plan C) × Fits g q n m × ((s : S) → Contains (g.states n) s → wins g p s ≡ true → wins g q s ≡ true)
      with_fewer Stop n zero sound fit = (Stop, refl, λ s k h. h)
      with_fewer Stop n (suc m) sound fit = (Stop, fit, λ s k h. h)
      with_fewer (Play c q) n zero sound fit = (Stop, refl, λ s k h. wins-stop g s ∙ made_by (Play c q) n 1 s sound fit k h)
      with_fewer (Play c q) n (suc m) sound fit =
          let r = with_fewer q (g.child n c) m (law.holds n c sound fit.2) fit.3 in
          (Play c r.0, (fit.0, fit.1, fit.2, r.1), λ s k h. r.2 (g.after c s) (Contains-after g Sound law n c s sound fit.2 k (our_card_legal n c s sound fit.1 fit.2 k)) h)
      with_fewer (Hear rs) n zero sound fit = (Stop, refl, λ s k h. wins-stop g s ∙ made_by (Hear rs) n 1 s sound fit k h)
      with_fewer (Hear rs) n (suc m) sound fit =
          let r = with_fewer_each rs n (suc m) sound (λ d l. subst (λ (x : List C). Contains x d) fit.2 l) fit.3 in
          (Hear r.0, (fit.0, fit.1, r.1 ∙ fit.2, r.2), r.3)

      pub with_fewer_each : (rs : Replies C) (n : N) (m : ℕ) → Sound n → ((c : C) → Contains (cards_of rs) c → Contains (g.choices n) c) → FitEach g rs n (suc m)
          → (less : Replies C) × (cards_of less ≡ cards_of rs) × FitEach g less n m × ((s : S) → Contains (g.states n) s → wins g (Hear rs) s ≡ true → wins g (Hear less) s ≡ true)
      with_fewer_each NoReply n m sound within fit = (NoReply, refl, tt, λ s k h. h)
      with_fewer_each (Reply c q rs) n m sound within fit =
          let in_choices : Contains (g.choices n) c = within c (Contains-here c (cards_of rs)) in
          let r = with_fewer q (g.child n c) m (law.holds n c sound in_choices) fit.0 in
          let o = with_fewer_each rs n m sound (λ x l. within x (Contains-there c (cards_of rs) x l)) fit.1 in (
            Reply c r.0 o.0,
            ap (λ (l : List C). c ∷ l) o.1,
            (r.1, o.2),
            λ s k h.
                let parts = and_parts (lets g c q s) (wins g (Hear rs) s) (sym (wins-first g c q rs s) ∙ h) in
                wins-first g c r.0 o.0 s ∙ and_from (lets g c r.0 s) (wins g (Hear o.0) s)
                (⊎_elim
                (λ (legal : g.is_legal c s ≡ true). cond-true (g.is_legal c s) (wins g r.0 (g.after c s)) true legal
                ∙ r.2 (g.after c s) (Contains-after g Sound law n c s sound in_choices k legal) (sym (cond-true (g.is_legal c s) (wins g q (g.after c s)) true legal) ∙ parts.0))
                (λ (not_legal : g.is_legal c s ≡ false). cond-false (g.is_legal c s) (wins g r.0 (g.after c s)) true not_legal)
                (cases_Bool (g.is_legal c s)))
                (o.3 s k parts.1),
          )

    pub more_moves : (n : N) (m : ℕ) (more less : List Vector) → Sound n → IsFront g n (suc m) more → IsFront g n m less → CoversAll less more
    more_moves n m more less sound a b v mem =
        let p = a.reached v mem in
        let q = with_fewer p.0 n m sound p.1 in
        let u = b.covered (wins_vector g q.0 n) (q.0, q.1, refl) in
        (u.0, u.1, Dominates-trans u.0 (wins_vector g q.0 n) v u.2 (subst (Dominates (wins_vector g q.0 n)) p.2 (Dominates-map (λ s. wins g q.0 s) (λ s. wins g p.0 s) (g.states n) q.2)))
