-- What declarer's side can keep to the end, it wins in each layout.
use Rattle.std.proofs.Common.{◌≡◌, ◌⊎◌, ◌∙◌, ◌<◌, ℕ, zero, suc, true, false, length, replicate, Contains, refl, sym, inl, inr, ⊎_elim, arith}
use Rattle.std.proofs.lemmas.Bool.{cases_Bool, and_from, cond-true, cond-false}
use Rattle.strategy_games.specs.Games.{Game, IsLawful, IsDoubleDummy, IsSettled}
use Rattle.strategy_games.specs.Plans.{Plan, Stop, Play, Hear, Fits, FitEach, wins, CanWin}
use Rattle.strategy_games.proofs.Lists.{map-agree}
use Rattle.strategy_games.proofs.Masks.{replicate-map}
use Rattle.strategy_games.proofs.Wins.{wins-stop, wins-first, lets, Contains-after}
use Rattle.strategy_games.proofs.Nodes.{replies_from}
use Rattle.strategy_games.proofs.Moves.{our_card_legal}

module _ {N S C : Type 0} (g : Game N S C) (Sound : N → Type 0) where
  -- While the result is open, some card of declarer's side keeps P, and so does each card of a defender.
  pub record IsKept (P : N → Type 0) : Type 0 where
    pub sound : (n : N) → P n → Sound n
    pub made : (n : N) → P n → g.is_decided n ≡ true → g.is_made n ≡ true
    pub ours : (n : N) → P n → g.is_decided n ≡ false → g.is_ours n ≡ true → (c : C) × Contains (g.choices n) c × P (g.child n c)
    pub theirs : (n : N) (c : C) → P n → g.is_decided n ≡ false → g.is_ours n ≡ false → Contains (g.choices n) c → P (g.child n c)

  module _ (law : IsLawful g Sound) (double : IsDoubleDummy g Sound) (settled : IsSettled g Sound) (P : N → Type 0) (kept : IsKept P) where
    -- double dummy makes each layout
    makes_each : (k : ℕ) (n : N) (s : S) → g.cards_left n < k → P n → Contains (g.states n) s → g.makes s ≡ true
    makes_each zero n s l p mem = absurd (omega arith)
    makes_each (suc k) n s l p mem = go (λ live c choice t. makes_each k (g.child n c) t (let less = law.falls n c (kept.sound n p) live choice in omega arith)) (cases_Bool (g.is_decided n)) (cases_Bool (g.is_ours n))
      where
        go : (g.is_decided n ≡ false → (c : C) → Contains (g.choices n) c → (t : S) → P (g.child n c) → Contains (g.states (g.child n c)) t → g.makes t ≡ true)
            → (g.is_decided n ≡ true) ⊎ (g.is_decided n ≡ false) → (g.is_ours n ≡ true) ⊎ (g.is_ours n ≡ false) → g.makes s ≡ true
        go below (inl over) _ = settled.same n s (kept.sound n p) over mem ∙ kept.made n p over
        go below (inr live) (inl ours) =
            let sound = kept.sound n p in
            let c = kept.ours n p live ours in
            double.ours n s c.0 sound mem live ours c.1 (below live c.0 c.1 (g.after c.0 s) c.2 (Contains-after g Sound law n c.0 s sound c.1 mem (our_card_legal g Sound law n c.0 s sound ours c.1 mem)))
        go below (inr live) (inr theirs) =
            let sound = kept.sound n p in
            double.theirs n s sound mem live theirs (λ c choice legal. below live c choice (g.after c s) (kept.theirs n c p live theirs choice) (Contains-after g Sound law n c s sound choice mem legal))

    -- a plan that wins each layout
    Wins : N → ℕ → Type 0
    Wins n m = (q : Plan C) × Fits g q n m × ((s : S) → Contains (g.states n) s → wins g q s ≡ true)

    plan_within : (k : ℕ) (n : N) (m : ℕ) → g.cards_left n < k → P n → Wins n m
    unfolding Wins
    plan_within zero n m l p = absurd (omega arith)
    plan_within (suc k) n zero l p = (Stop, refl, λ s mem. wins-stop g s ∙ makes_each (suc k) n s l p mem)
    plan_within (suc k) n (suc m) l p = go (λ live c choice j. plan_within k (g.child n c) j (let less = law.falls n c (kept.sound n p) live choice in omega arith)) (cases_Bool (g.is_decided n)) (cases_Bool (g.is_ours n))
      where
        go : (g.is_decided n ≡ false → (c : C) → Contains (g.choices n) c → (j : ℕ) → P (g.child n c) → Wins (g.child n c) j)
            → (g.is_decided n ≡ true) ⊎ (g.is_decided n ≡ false) → (g.is_ours n ≡ true) ⊎ (g.is_ours n ≡ false) → Wins n (suc m)
        go below (inl over) _ = (Stop, over, λ s mem. wins-stop g s ∙ makes_each (suc k) n s l p mem)
        go below (inr live) (inl ours) =
            let sound = kept.sound n p in
            let c = kept.ours n p live ours in
            let q = below live c.0 c.1 m c.2 in
            (Play c.0 q.0, (live, ours, c.1, q.1), λ s mem. q.2 (g.after c.0 s) (Contains-after g Sound law n c.0 s sound c.1 mem (our_card_legal g Sound law n c.0 s sound ours c.1 mem)))
        go below (inr live) (inr theirs) =
            let sound = kept.sound n p in
            let rs = replies_from
            (λ rs. FitEach g rs n (suc m) × ((s : S) → Contains (g.states n) s → wins g (Hear rs) s ≡ true))
            (λ c q. Fits g q (g.child n c) (suc m) × ((s : S) → Contains (g.states n) s → lets g c q s ≡ true))
            (tt, λ s mem. refl)
            (λ c q rs ok others. ((ok.0, others.0), λ s mem. wins-first g c q rs s ∙ and_from (lets g c q s) (wins g (Hear rs) s) (ok.1 s mem) (others.1 s mem)))
            (g.choices n)
            (λ c choice.
            let q = below live c choice (suc m) (kept.theirs n c p live theirs choice) in (
              q.0,
              (
                q.1,
                λ s mem. ⊎_elim
                    (λ (legal : g.is_legal c s ≡ true). cond-true (g.is_legal c s) (wins g q.0 (g.after c s)) true legal ∙ q.2 (g.after c s) (Contains-after g Sound law n c s sound choice mem legal))
                    (λ (not_legal : g.is_legal c s ≡ false). cond-false (g.is_legal c s) (wins g q.0 (g.after c s)) true not_legal)
                    (cases_Bool (g.is_legal c s)),
              ),
            )) in
            (Hear rs.0, (live, theirs, rs.1, rs.2.0), rs.2.1)

    pub kept_wins : (n : N) (m : ℕ) → P n → CanWin g n m (replicate (length (g.states n)) true)
    unfolding Wins
    kept_wins n m p =
        let q = plan_within (suc (g.cards_left n)) n m (omega arith) p in
        (q.0, q.1, map-agree (λ s. wins g q.0 s) (λ s. true) (g.states n) q.2 ∙ sym (replicate-map true (g.states n)))
