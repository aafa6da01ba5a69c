-- The chosen plan: there is one, it is the only one, and it wins the first vector above the target.
use Rattle.std.proofs.Common.{◌≡◌, ◌⊎◌, ◌∙◌, ◌<◌, ℕ, zero, suc, true, false, List, map, filter, Contains, refl, sym, ap, ap₂, subst, true≢false, inl, inr, ⊎_elim, arith}
use Rattle.std.proofs.lemmas.Bool.{cases_Bool, and_parts, and_from, cond-true, cond-false}
use Rattle.win_vectors.specs.Vectors.{restrict_of}
use Rattle.win_vectors.specs.Fronts.{Vector, Dominates, Covers, IsFirstAbove}
use Rattle.strategy_games.specs.Games.{Game, mask, IsLawful}
use Rattle.strategy_games.specs.Plans.{Plan, Replies, Stop, Play, Hear, NoReply, Reply, cards_of, Fits, FitEach, wins, wins_vector, CanWin, IsFront}
use Rattle.strategy_games.specs.Joins.{WinsByReply}
use Rattle.strategy_games.specs.Choosing.{IsFirstOf, IsPick, Keeps, IsChosenPlan, AreChosenReplies}
use Rattle.strategy_games.specs.Laws.{HasChosenPlan}
use Rattle.strategy_games.proofs.Lists.{Contains-here, Contains-there, Contains-nil, Contains-cons, Contains-filter, Contains-of_filter, first_from, first_unique, first_is_member}
use Rattle.strategy_games.proofs.Vectors.{Dominates-antisym, Dominates-trans}
use Rattle.strategy_games.proofs.Fronts.{front_unique, first_above_exists, first_above_unique, cases_Covers}
use Rattle.strategy_games.proofs.Masks.{Dominates-map, Dominates-of_map, restrict-map, map-map}
use Rattle.strategy_games.proofs.Wins.{wins-first, lets, wins_vector-play}
use Rattle.strategy_games.proofs.Recursion.{CanWin-stop}
use Rattle.strategy_games.proofs.Nodes.{front_exists, by_card_from, by_reply_from, replies_from}

module _ {N S C : Type 0} (g : Game N S C) where
  -- ---- only one

  pick_unique : (n : N) (m : ℕ) (t u w : Vector) → IsPick g n m t u → IsPick g n m t w → u ≡ w
  pick_unique n m t u w a b = first_above_unique a.0 t u w a.2 (subst (λ f. IsFirstAbove f t w) (front_unique (CanWin g n m) b.0 a.0 b.1 a.1) b.2)

  mutual
    chosen_unique : (p q : Plan C) (n : N) (m : ℕ) (t : Vector) → IsChosenPlan g p n m t → IsChosenPlan g q n m t → p ≡ q
    chosen_unique Stop Stop n m t h k = refl
    chosen_unique Stop (Play d q) n zero t h k = absurd k
    chosen_unique Stop (Play d q) n (suc m) t h k = absurd (true≢false (sym h ∙ k.0))
    chosen_unique Stop (Hear ss) n m t h k = absurd (true≢false (sym h ∙ k.0))
    chosen_unique (Play c p) Stop n zero t h k = absurd h
    chosen_unique (Play c p) Stop n (suc m) t h k = absurd (true≢false (sym k ∙ h.0))
    chosen_unique (Play c p) (Play d q) n zero t h k = absurd h
    chosen_unique (Play c p) (Play d q) n (suc m) t h k =
        let same_u : k.2 ≡ h.2 = pick_unique n (suc m) t k.2 h.2 k.3 h.3 in
        let same_c : d ≡ c = first_unique (Keeps g n m h.2) (g.choices n) d c (subst (λ u. IsFirstOf (Keeps g n m u) (g.choices n) d) same_u k.4) h.4 in
        let rest : p ≡ q = chosen_unique p q (g.child n c) m h.2 h.5 (subst (λ x. IsChosenPlan g q (g.child n x) m h.2) same_c (subst (λ u. IsChosenPlan g q (g.child n d) m u) same_u k.5)) in
        ap₂ (λ (x : C) (y : Plan C). Play x y) (sym same_c) rest
    chosen_unique (Play c p) (Hear ss) n zero t h k = absurd h
    chosen_unique (Play c p) (Hear ss) n (suc m) t h k = absurd (true≢false (sym h.1 ∙ k.1))
    chosen_unique (Hear rs) Stop n m t h k = absurd (true≢false (sym k ∙ h.0))
    chosen_unique (Hear rs) (Play d q) n zero t h k = absurd k
    chosen_unique (Hear rs) (Play d q) n (suc m) t h k = absurd (true≢false (sym k.1 ∙ h.1))
    chosen_unique (Hear rs) (Hear ss) n m t h k =
        let same_u : k.2 ≡ h.2 = pick_unique n m t k.2 h.2 k.3 h.3 in
        ap (λ (x : Replies C). Hear x) (replies_unique rs ss n m h.2 (h.4 ∙ sym k.4) h.5 (subst (λ u. AreChosenReplies g ss n m u) same_u k.5))

    replies_unique : (rs ss : Replies C) (n : N) (m : ℕ) (u : Vector) → cards_of rs ≡ cards_of ss → AreChosenReplies g rs n m u → AreChosenReplies g ss n m u → rs ≡ ss
    replies_unique NoReply NoReply n m u e h k = refl
    replies_unique NoReply (Reply d q ss) n m u e h k = absurd cc
    replies_unique (Reply c p rs) NoReply n m u e h k = absurd cc
    replies_unique (Reply c p rs) (Reply d q ss) n m u e h k =
        let heads : d ≡ c = cc in
        let tails : cards_of rs ≡ cards_of ss = cc in
        let first : p ≡ q = chosen_unique p q (g.child n c) m (restrict_of u (mask g n c)) h.0 (subst (λ x. IsChosenPlan g q (g.child n x) m (restrict_of u (mask g n x))) heads k.0) in
        let others : rs ≡ ss = replies_unique rs ss n m u tails h.1 k.1 in
        λ i. Reply (sym heads i) (first i) (others i)

  -- what a plan that is no worse than the pick wins is the pick
  settle : (n : N) (m : ℕ) (p : Plan C) (t u : Vector) (f : List Vector) → IsFront g n m f → Fits g p n m → IsFirstAbove f t u → Dominates (wins_vector g p n) u → IsFirstAbove f t (wins_vector g p n)
  settle n m p t u f a fit first d =
      let x = a.covered (wins_vector g p n) (p, fit, refl) in
      let same : x.0 ≡ u = a.apart x.0 u x.1 first.member (Dominates-trans x.0 (wins_vector g p n) u x.2 d) in
      let is : u ≡ wins_vector g p n = Dominates-antisym u (wins_vector g p n) (subst (λ z. Dominates z (wins_vector g p n)) same x.2) d in
      subst (IsFirstAbove f t) is first

  -- the reply to one of the cards
  pub reply_for : (rs : Replies C) (n : N) (m : ℕ) (c : C) → Contains (cards_of rs) c → FitEach g rs n m → (q : Plan C) × Fits g q (g.child n c) m × ((s : S) → wins g (Hear rs) s ≡ true → lets g c q s ≡ true)
  reply_for NoReply n m c mem fit = absurd (Contains-nil c mem)
  reply_for (Reply d q rs) n m c mem fit = go (reply_for rs n m c) (Contains-cons d (cards_of rs) c mem)
    where
      go : (Contains (cards_of rs) c → FitEach g rs n m → (q : Plan C) × Fits g q (g.child n c) m × ((s : S) → wins g (Hear rs) s ≡ true → lets g c q s ≡ true)) → (d ≡ c) ⊎ Contains (cards_of rs) c
          → (p : Plan C) × Fits g p (g.child n c) m × ((s : S) → wins g (Hear (Reply d q rs)) s ≡ true → lets g c p s ≡ true)
      go rest (inl same) = (q, subst (λ x. Fits g q (g.child n x) m) same fit.0, λ s h. subst (λ x. lets g x q s ≡ true) same (and_parts (lets g d q s) (wins g (Hear rs) s) (sym (wins-first g d q rs s) ∙ h)).0)
      go rest (inr later) = let r = rest later fit.1 in (r.0, r.1, λ s h. r.2 s (and_parts (lets g d q s) (wins g (Hear rs) s) (sym (wins-first g d q rs s) ∙ h)).1)

  module _ (Sound : N → Type 0) (law : IsLawful g Sound) where
    -- what a plan wins at a child, over the layouts of the node
    child_vector : (n : N) (c : C) (q : Plan C) → Sound n → Contains (g.choices n) c → wins_vector g q (g.child n c) ≡ map (λ s. wins g q (g.after c s)) (filter (λ s. g.is_legal c s) (g.states n))
    child_vector n c q sound mem = ap (λ (l : List S). map (λ s. wins g q s) l) (law.keeps n c sound mem) ∙ map-map (λ s. wins g q s) (λ s. g.after c s) (filter (λ s. g.is_legal c s) (g.states n))

    -- a vector that is won before a defender's card is won, in its part, after the card
    part_covered : (n : N) (m : ℕ) (c : C) (u : Vector) (h : List Vector) → Sound n → WinsByReply g n m (g.choices n) u → Contains (g.choices n) c → IsFront g (g.child n c) m h → Covers h (restrict_of u (mask g n c))
    part_covered n m c u h sound w mem a =
        let q = reply_for w.0 n m c (subst (λ (l : List C). Contains l c) (sym w.1) mem) w.2 in
        let v = a.covered (wins_vector g q.0 (g.child n c)) (q.0, q.1, refl) in
        let part : map (λ s. wins g (Hear w.0) s) (filter (λ s. g.is_legal c s) (g.states n)) ≡ restrict_of u (mask g n c) = sym (restrict-map (λ s. g.is_legal c s) (λ s. wins g (Hear w.0) s) (g.states n)) ∙ ap (λ (z : Vector). restrict_of z (mask g n c)) w.3 in (
          v.0,
          v.1,
          Dominates-trans v.0 (wins_vector g q.0 (g.child n c)) (restrict_of u (mask g n c)) v.2
              (subst (Dominates (wins_vector g q.0 (g.child n c))) part (subst (λ z. Dominates z (map (λ s. wins g (Hear w.0) s) (filter (λ s. g.is_legal c s) (g.states n)))) (sym (child_vector n c q.0 sound mem))
              (Dominates-map (λ s. wins g q.0 (g.after c s)) (λ s. wins g (Hear w.0) s) (filter (λ s. g.is_legal c s) (g.states n))
              (λ s k won. let legal = (Contains-of_filter (λ s. g.is_legal c s) (g.states n) s k).1 in sym (cond-true (g.is_legal c s) (wins g q.0 (g.after c s)) true legal) ∙ q.2 s won)))),
        )

    -- ---- there is one

    cases_Keeps : (n : N) (m : ℕ) (u : Vector) (c : C) → Sound (g.child n c) → Keeps g n m u c ⊎ (Keeps g n m u c → ⊥)
    cases_Keeps n m u c sound = go (front_exists g Sound law (g.child n c) m sound)
      where
        go : (f : List Vector) × IsFront g (g.child n c) m f → Keeps g n m u c ⊎ (Keeps g n m u c → ⊥)
        go f = ⊎_elim (λ (cov : Covers f.0 u). inl (f.0, f.1, cov)) (λ (none : Covers f.0 u → ⊥). inr (λ (k : Keeps g n m u c). none (subst (λ (l : List Vector). Covers l u) (front_unique (CanWin g (g.child n c) m) k.0 f.0 k.1 f.1) k.2))) (cases_Covers f.0 u)

    chosen_within : (k : ℕ) (n : N) (m : ℕ) (t : Vector) (f : List Vector) → g.cards_left n < k → Sound n → IsFront g n m f → Covers f t → (p : Plan C) × IsChosenPlan g p n m t
    chosen_within zero n m t f l sound a c = absurd (omega arith)
    chosen_within (suc k) n zero t f l sound a c = (Stop, refl)
    chosen_within (suc k) n (suc m) t f l sound a c = go (λ live x mem j t' f' a' c'. chosen_within k (g.child n x) j t' f' (let less = law.falls n x sound live mem in omega arith) (law.holds n x sound mem) a' c')
        (cases_Bool (g.is_decided n)) (cases_Bool (g.is_ours n)) (first_above_exists f t a.ordered c)
      where
        go : (g.is_decided n ≡ false → (x : C) → Contains (g.choices n) x → (j : ℕ) (t' : Vector) (f' : List Vector) → IsFront g (g.child n x) j f' → Covers f' t' → (p : Plan C) × IsChosenPlan g p (g.child n x) j t')
            → (g.is_decided n ≡ true) ⊎ (g.is_decided n ≡ false) → (g.is_ours n ≡ true) ⊎ (g.is_ours n ≡ false) → (u : Vector) × IsFirstAbove f t u → (p : Plan C) × IsChosenPlan g p n (suc m) t
        go below (inl e) _ u = (Stop, e)
        go below (inr live) (inl ours) u =
            let w = by_card_from g Sound law n m sound live ours u.0 (a.reached u.0 u.1.member) in
            let h = front_exists g Sound law (g.child n w.0) m (law.holds n w.0 sound w.1) in
            let x = first_from (Keeps g n m u.0) (g.choices n) (λ d mem. cases_Keeps n m u.0 d (law.holds n d sound mem)) w.0 w.1 (h.0, h.1, h.1.covered u.0 w.2) in
            let mem = first_is_member (Keeps g n m u.0) (g.choices n) x.0 x.1 in
            let q = below live x.0 mem m u.0 x.1.4.0 x.1.4.1 x.1.4.2 in
            (Play x.0 q.0, (live, ours, u.0, (f, a, u.1), x.1, q.1))
        go below (inr live) (inr theirs) u =
            let w = by_reply_from g Sound law n m live theirs u.0 (a.reached u.0 u.1.member) in
            let rs = replies_from (λ rs. AreChosenReplies g rs n (suc m) u.0) (λ x q. IsChosenPlan g q (g.child n x) (suc m) (restrict_of u.0 (mask g n x))) tt (λ x q rs h k. (h, k)) (g.choices n)
            (λ x mem. let h = front_exists g Sound law (g.child n x) (suc m) (law.holds n x sound mem) in below live x mem (suc m) (restrict_of u.0 (mask g n x)) h.0 h.1 (part_covered n (suc m) x u.0 h.0 sound w mem h.1)) in
            (Hear rs.0, (live, theirs, u.0, (f, a, u.1), rs.1, rs.2))

    -- ---- what it wins

    -- a reply that wins the part of a vector lets the vector through
    reply_lets : (d : C) (q : Plan C) (n : N) (m : ℕ) (u : Vector) → Sound n → (w : WinsByReply g n m (g.choices n) u) → Contains (g.choices n) d → Dominates (wins_vector g q (g.child n d)) (restrict_of u (mask g n d))
        → (s : S) → Contains (g.states n) s → wins g (Hear w.0) s ≡ true → lets g d q s ≡ true
    reply_lets d q n m u sound w mem above s k won =
        let part : restrict_of u (mask g n d) ≡ map (λ s. wins g (Hear w.0) s) (filter (λ s. g.is_legal d s) (g.states n)) = sym (ap (λ (z : Vector). restrict_of z (mask g n d)) w.3) ∙ restrict-map (λ s. g.is_legal d s) (λ s. wins g (Hear w.0) s) (g.states n) in
        let over : Dominates (map (λ s. wins g q (g.after d s)) (filter (λ s. g.is_legal d s) (g.states n))) (map (λ s. wins g (Hear w.0) s) (filter (λ s. g.is_legal d s) (g.states n)))
        = subst (λ z. Dominates z (map (λ s. wins g (Hear w.0) s) (filter (λ s. g.is_legal d s) (g.states n)))) (child_vector n d q sound mem) (subst (Dominates (wins_vector g q (g.child n d))) part above) in
        ⊎_elim
        (λ (legal : g.is_legal d s ≡ true). cond-true (g.is_legal d s) (wins g q (g.after d s)) true legal
        ∙ Dominates-of_map (λ s. wins g q (g.after d s)) (λ s. wins g (Hear w.0) s) (filter (λ s. g.is_legal d s) (g.states n)) over s (Contains-filter (λ s. g.is_legal d s) (g.states n) s k legal) won)
        (λ (not_legal : g.is_legal d s ≡ false). cond-false (g.is_legal d s) (wins g q (g.after d s)) true not_legal)
        (cases_Bool (g.is_legal d s))

    mutual
      chosen_wins : (p : Plan C) (n : N) (m : ℕ) (t : Vector) (f : List Vector) → Sound n → IsFront g n m f → Covers f t → IsChosenPlan g p n m t → Fits g p n m × IsFirstAbove f t (wins_vector g p n)
      chosen_wins Stop n m t f sound a c h =
          let is : wins_vector g Stop n ≡ c.0 = CanWin-stop g n m c.0 h (a.reached c.0 c.1) in (
            h,
            record {
              member = subst (Contains f) (sym is) c.1;
              above = subst (λ z. Dominates z t) (sym is) c.2;
              first = λ w mem d. inl (CanWin-stop g n m w h (a.reached w mem));
            },
          )
      chosen_wins (Play d q) n zero t f sound a c h = absurd h
      chosen_wins (Play d q) n (suc m) t f sound a c h =
          let mem = first_is_member (Keeps g n m h.2) (g.choices n) d h.4 in
          let keeps = h.4.4 in
          let below = chosen_wins q (g.child n d) m h.2 keeps.0 (law.holds n d sound mem) keeps.1 keeps.2 h.5 in
          let first : IsFirstAbove f t h.2 = subst (λ l. IsFirstAbove l t h.2) (front_unique (CanWin g n (suc m)) h.3.0 f h.3.1 a) h.3.2 in
          let fit : Fits g (Play d q) n (suc m) = (h.0, h.1, mem, below.0) in
          (fit, settle n (suc m) (Play d q) t h.2 f a fit first (subst (λ z. Dominates z h.2) (sym (wins_vector-play g Sound law n d q sound h.1 mem)) below.1.above))
      chosen_wins (Hear rs) n zero t f sound a c h = absurd (true≢false h.0)
      chosen_wins (Hear rs) n (suc m) t f sound a c h =
          let first : IsFirstAbove f t h.2 = subst (λ l. IsFirstAbove l t h.2) (front_unique (CanWin g n (suc m)) h.3.0 f h.3.1 a) h.3.2 in
          let w = by_reply_from g Sound law n m h.0 h.1 h.2 (a.reached h.2 first.member) in
          let each = replies_win rs n (suc m) h.2 sound w (λ x l. subst (λ (z : List C). Contains z x) h.4 l) h.5 in
          let fit : Fits g (Hear rs) n (suc m) = (h.0, h.1, h.4, each.0) in
          (fit, settle n (suc m) (Hear rs) t h.2 f a fit first (subst (Dominates (wins_vector g (Hear rs) n)) w.3 (Dominates-map (λ s. wins g (Hear rs) s) (λ s. wins g (Hear w.0) s) (g.states n) each.1)))

      replies_win : (rs : Replies C) (n : N) (m : ℕ) (u : Vector) → Sound n → (w : WinsByReply g n m (g.choices n) u) → ((x : C) → Contains (cards_of rs) x → Contains (g.choices n) x) → AreChosenReplies g rs n m u
          → FitEach g rs n m × ((s : S) → Contains (g.states n) s → wins g (Hear w.0) s ≡ true → wins g (Hear rs) s ≡ true)
      replies_win NoReply n m u sound w within h = (tt, λ s k won. refl)
      replies_win (Reply d q rs) n m u sound w within h =
          let mem = within d (Contains-here d (cards_of rs)) in
          let front = front_exists g Sound law (g.child n d) m (law.holds n d sound mem) in
          let below = chosen_wins q (g.child n d) m (restrict_of u (mask g n d)) front.0 (law.holds n d sound mem) front.1 (part_covered n m d u front.0 sound w mem front.1) h.0 in
          let others = replies_win rs n m u sound w (λ x l. within x (Contains-there d (cards_of rs) x l)) h.1 in (
            (below.0, others.0),
            λ s k won.
                wins-first g d q rs s ∙ and_from (lets g d q s) (wins g (Hear rs) s) (reply_lets d q n m u sound w mem below.1.above s k won) (others.1 s k won),
          )

    pub chosen_plan : HasChosenPlan g Sound
    chosen_plan = record {
      exists = λ n m t f sound a c. chosen_within (suc (g.cards_left n)) n m t f (omega arith) sound a c;
      unique = chosen_unique;
      wins = chosen_wins;
      kept = λ n m u f sound live ours a mem.
          let w = by_card_from g Sound law n m sound live ours u (a.reached u mem) in
          let h = front_exists g Sound law (g.child n w.0) m (law.holds n w.0 sound w.1) in
          (w.0, w.1, (h.0, h.1, h.1.covered u w.2));
      part = λ n m u f h c sound live theirs a k mem b. part_covered n (suc m) c u h sound (by_reply_from g Sound law n m live theirs u (a.reached u k)) mem b;
    }
