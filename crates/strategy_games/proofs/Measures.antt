-- The best and the named card by a measure of vectors that is monotone under dominance.
use Rattle.std.proofs.Common.{◌≡◌, ◌⊎◌, ◌∙◌, ◌≤◌, ◌<◌, ℕ, suc, Bool, true, false, List, [], ◌∷◌, map, length, replicate, Contains, refl, sym, ap, subst, inl, inr, ⊎_elim, arith}
use Rattle.std.proofs.lemmas.Bool.{cases_Bool, cases_eq, cases_lt}
use Rattle.win_vectors.specs.Fronts.{Vector}
use Rattle.win_vectors.specs.Weights.{IsMonotone}
use Rattle.strategy_games.specs.Games.{Game, IsLawful, IsDoubleDummy, IsSettled}
use Rattle.strategy_games.specs.Plans.{Plan, Play, Fits, wins_vector, CanWin, IsFront}
use Rattle.strategy_games.specs.Choosing.{IsFirstOf, HasMeasure, IsBestBy, IsNamedBy}
use Rattle.strategy_games.specs.Laws.{HasBestBy, HasNamedBy, NeverRises}
use Rattle.strategy_games.proofs.Lists.{Contains-here, Contains-there, Contains-nil, Contains-single, Contains-cons, filled_or_nil, first_or_none, first_from, first_unique, first_is_member}
use Rattle.strategy_games.proofs.Fronts.{front_unique}
use Rattle.strategy_games.proofs.Masks.{replicate-map}
use Rattle.strategy_games.proofs.Wins.{wins_vector-play}
use Rattle.strategy_games.proofs.Nodes.{front_exists, front_filled, by_card_to, by_card_from, decided_vector, decided_child}
use Rattle.strategy_games.proofs.Moves.{more_moves}

module _ (measure : Vector → ℕ) where
  -- the vector measures most of the list
  IsGreatest : List Vector → Vector → Type 0
  IsGreatest f u = Contains f u × ((w : Vector) → Contains f w → measure w ≤ measure u)

  -- a list that isn't empty has one
  greatest : (v : Vector) (f : List Vector) → (u : Vector) × IsGreatest (v ∷ f) u
  unfolding IsGreatest
  greatest v [] = (v, (Contains-here v [], λ w mem. let same = ap measure (Contains-single v w mem) in omega arith))
  greatest v (x ∷ f) = go (greatest x f).0 (greatest x f).1
    where
      go : (u : Vector) → IsGreatest (x ∷ f) u → (u : Vector) × IsGreatest (v ∷ x ∷ f) u
      go u top = ⊎_elim
          (λ (less : measure v < measure u). (
            u,
            (Contains-there v (x ∷ f) u top.0, λ w mem. ⊎_elim (λ (e : v ≡ w). let same = ap measure e in omega arith) (λ (k : Contains (x ∷ f) w). top.1 w k) (Contains-cons v (x ∷ f) w mem)),
          ))
          (λ (more : measure u ≤ measure v). (
            v,
            (
              Contains-here v (x ∷ f),
              λ w mem. ⊎_elim (λ (e : v ≡ w). let same = ap measure e in omega arith) (λ (k : Contains (x ∷ f) w). let most = top.1 w k in omega arith) (Contains-cons v (x ∷ f) w mem),
            ),
          ))
          (cases_lt (measure v) (measure u))

module _ {N S C : Type 0} (g : Game N S C) (measure : Vector → ℕ) where
  -- a measure of the node is one of any front of it
  pub measured : (n : N) (m b : ℕ) (f : List Vector) → IsFront g n m f → HasMeasure g measure n m b → (v : Vector) × Contains f v × (measure v ≡ b)
  measured n m b f a h = (h.2, subst (λ (l : List Vector). Contains l h.2) (front_unique (CanWin g n m) h.0 f h.1 a) h.3, h.4)

  -- what measures most of a front is the best
  pub best_of : (n : N) (m : ℕ) (f : List Vector) (u : Vector) → IsFront g n m f → Contains f u → ((w : Vector) → Contains f w → measure w ≤ measure u) → IsBestBy g measure n m (measure u)
  best_of n m f u a mem top = ((f, a, u, mem, refl), λ c h. let w = measured n m c f a h in let most = top w.0 w.1 in let is = w.2 in omega arith)

  best_one : (n : N) (m b c : ℕ) → IsBestBy g measure n m b → IsBestBy g measure n m c → b ≡ c
  best_one n m b c h k = let up = k.1 b h.0 in let down = h.1 c k.0 in omega arith

  module _ (monotone : IsMonotone measure) where
    pub best_most : (n : N) (m b : ℕ) (p : Plan C) → IsBestBy g measure n m b → Fits g p n m → measure (wins_vector g p n) ≤ b
    best_most n m b p h fit =
        let u = h.0.1.covered (wins_vector g p n) (p, fit, refl) in
        let less = monotone u.0 (wins_vector g p n) u.2 in
        let most = h.1 (measure u.0) (h.0.0, h.0.1, u.0, u.1, refl) in
        omega arith

  module _ (Sound : N → Type 0) (law : IsLawful g Sound) where
    pub best_exists : (n : N) (m : ℕ) → Sound n → (b : ℕ) × IsBestBy g measure n m b
    unfolding IsGreatest
    best_exists n m sound = go (front_exists g Sound law n m sound).0 (front_exists g Sound law n m sound).1
      where
        go : (f : List Vector) → IsFront g n m f → (b : ℕ) × IsBestBy g measure n m b
        go [] a = absurd (front_filled g Sound law n m [] sound a refl)
        go (v ∷ rest) a = let u = greatest measure v rest in (measure u.0, best_of n m (v ∷ rest) u.0 a u.1.0 u.1.1)

    pub never_rises : IsMonotone measure → IsDoubleDummy g Sound → NeverRises g Sound measure
    never_rises monotone double n m more less sound h k =
        let u = more_moves g Sound law double n m h.0.0 k.0.0 sound h.0.1 k.0.1 h.0.2 h.0.3 in
        let fewer = monotone u.0 h.0.2 u.2 in
        let most = k.1 (measure u.0) (k.0.0, k.0.1, u.0, u.1, refl) in
        let is = h.0.4 in
        omega arith

    cases_HasMeasure : (n : N) (m b : ℕ) → Sound n → HasMeasure g measure n m b ⊎ (HasMeasure g measure n m b → ⊥)
    cases_HasMeasure n m b sound = go (front_exists g Sound law n m sound)
      where
        go : (f : List Vector) × IsFront g n m f → HasMeasure g measure n m b ⊎ (HasMeasure g measure n m b → ⊥)
        go f = ⊎_elim
            (λ (v : (v : Vector) × IsFirstOf (λ v. measure v ≡ b) f.0 v). inl (f.0, f.1, v.0, first_is_member (λ v. measure v ≡ b) f.0 v.0 v.1, v.1.4))
            (λ (none : (v : Vector) → Contains f.0 v → measure v ≡ b → ⊥). inr (λ (h : HasMeasure g measure n m b). let v = measured n m b f.0 f.1 h in none v.0 v.1 v.2))
            (first_or_none (λ v. measure v ≡ b) f.0 (λ v mem. cases_eq (measure v) b))

    module _ (settled : IsSettled g Sound) where
      best_decided : (n : N) (m b : ℕ) → Sound n → g.is_decided n ≡ true → IsBestBy g measure n m b
          → (b ≡ measure (replicate (length (g.states n)) false)) ⊎ (b ≡ measure (replicate (length (g.states n)) true))
      best_decided n m b sound e h = go (g.is_made n) (decided_vector g Sound law settled n m h.0.2 sound e (h.0.1.reached h.0.2 h.0.3))
        where
          is_all : (made : Bool) → map (λ s. made) (g.states n) ≡ h.0.2 → b ≡ measure (replicate (length (g.states n)) made)
          is_all made is = sym h.0.4 ∙ ap measure (sym is ∙ sym (replicate-map made (g.states n)))

          go : (made : Bool) → map (λ s. made) (g.states n) ≡ h.0.2 → (b ≡ measure (replicate (length (g.states n)) false)) ⊎ (b ≡ measure (replicate (length (g.states n)) true))
          go true is = inr (is_all true is)
          go false is = inl (is_all false is)

      -- where the result is decided each card keeps the best
      decided_keeps : (n : N) (m b : ℕ) (c : C) → Sound n → g.is_decided n ≡ true → g.is_ours n ≡ true → Contains (g.choices n) c → HasMeasure g measure n (suc m) b → HasMeasure g measure (g.child n c) m b
      decided_keeps n m b c sound e ours mem h = go (front_exists g Sound law (g.child n c) m (law.holds n c sound mem))
        where
          go : (f : List Vector) × IsFront g (g.child n c) m f → HasMeasure g measure (g.child n c) m b
          go f = ⊎_elim
              (λ (none : f.0 ≡ []). absurd (front_filled g Sound law (g.child n c) m f.0 (law.holds n c sound mem) f.1 none))
              (λ (some : (w : Vector) × Contains f.0 w). (
                f.0,
                f.1,
                some.0,
                some.1,
                ap measure (sym (decided_child g Sound law settled n m c some.0 sound e ours mem (f.1.reached some.0 some.1)) ∙ decided_vector g Sound law settled n (suc m) h.2 sound e (h.1.reached h.2 h.3)) ∙ h.4,
              ))
              (filled_or_nil f.0)

      module _ (monotone : IsMonotone measure) where
        pub some_keeps : (n : N) (m b : ℕ) → Sound n → g.is_over n ≡ false → g.is_ours n ≡ true → IsBestBy g measure n (suc m) b → (c : C) × Contains (g.choices n) c × HasMeasure g measure (g.child n c) m b
        some_keeps n m b sound on ours h = go (cases_Bool (g.is_decided n)) (filled_or_nil (g.choices n))
          where
            go : (g.is_decided n ≡ true) ⊎ (g.is_decided n ≡ false) → (g.choices n ≡ []) ⊎ ((c : C) × Contains (g.choices n) c) → (c : C) × Contains (g.choices n) c × HasMeasure g measure (g.child n c) m b
            go _ (inl none) = absurd (law.some_card n sound on none)
            go (inl e) (inr some) = (some.0, some.1, decided_keeps n m b some.0 sound e ours some.1 h.0)
            go (inr live) (inr some) =
                let w = by_card_from g Sound law n m sound live ours h.0.2 (h.0.1.reached h.0.2 h.0.3) in
                let f = front_exists g Sound law (g.child n w.0) m (law.holds n w.0 sound w.1) in
                let u = f.1.covered h.0.2 w.2 in
                let x = h.0.1.covered u.0 (by_card_to g Sound law n m sound live ours u.0 (w.0, w.1, f.1.reached u.0 u.1)) in
                let fewer = monotone u.0 h.0.2 u.2 in
                let more = monotone x.0 u.0 x.2 in
                let most = h.1 (measure x.0) (h.0.0, h.0.1, x.0, x.1, refl {a = measure x.0}) in
                let is = h.0.4 in
                (w.0, w.1, (f.0, f.1, u.0, u.1, omega arith))

        pub best_by : HasBestBy g Sound measure
        best_by = record { exists = best_exists; unique = best_one; most = best_most monotone; greatest = best_of; decided = best_decided }

        named_exists : (n : N) (m : ℕ) → Sound n → g.is_over n ≡ false → g.is_ours n ≡ true → (c : C) × IsNamedBy g measure n (suc m) c
        named_exists n m sound on ours =
            let b = best_exists n (suc m) sound in
            let k = some_keeps n m b.0 sound on ours b.1 in
            let c = first_from (λ d. HasMeasure g measure (g.child n d) m b.0) (g.choices n) (λ d mem. cases_HasMeasure (g.child n d) m b.0 (law.holds n d sound mem)) k.0 k.1 k.2 in
            (c.0, (b.0, b.1, c.1))

        named_one : (n : N) (m : ℕ) (c d : C) → IsNamedBy g measure n (suc m) c → IsNamedBy g measure n (suc m) d → c ≡ d
        named_one n m c d h k =
            first_unique (λ x. HasMeasure g measure (g.child n x) m h.0) (g.choices n) c d h.2 (subst (λ b. IsFirstOf (λ x. HasMeasure g measure (g.child n x) m b) (g.choices n) d) (best_one n (suc m) k.0 h.0 k.1 h.1) k.2)

        named_wins : (n : N) (m : ℕ) (c : C) → Sound n → g.is_decided n ≡ false → g.is_ours n ≡ true → IsNamedBy g measure n (suc m) c
            → (q : Plan C) × (b : ℕ) × Fits g (Play c q) n (suc m) × IsBestBy g measure n (suc m) b × (measure (wins_vector g (Play c q) n) ≡ b)
        named_wins n m c sound live ours h =
            let mem = first_is_member (λ d. HasMeasure g measure (g.child n d) m h.0) (g.choices n) c h.2 in
            let kept = h.2.4 in
            let q = kept.1.reached kept.2 kept.3 in
            (q.0, h.0, (live, ours, mem, q.1), h.1, ap measure (wins_vector-play g Sound law n c q.0 sound ours mem ∙ q.2) ∙ kept.4)

        named_decided : (n : N) (m : ℕ) (c : C) (rest : List C) → Sound n → g.is_decided n ≡ true → g.is_ours n ≡ true → g.choices n ≡ c ∷ rest → IsNamedBy g measure n (suc m) c
        named_decided n m c rest sound e ours is =
            let b = best_exists n (suc m) sound in
            (b.0, b.1, ([], rest, is, λ d mem h. Contains-nil d mem, decided_keeps n m b.0 c sound e ours (subst (λ (l : List C). Contains l c) (sym is) (Contains-here c rest)) b.1.0))

        pub named_by : HasNamedBy g Sound measure
        named_by = record { exists = named_exists; unique = named_one; wins = named_wins; decided = named_decided }
