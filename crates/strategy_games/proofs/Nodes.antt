-- From the cards of a node to the node, each node's front, and the laws of the recursion.
use Rattle.std.proofs.Common.{◌≡◌, ◌⊎◌, ◌++◌, ◌∙◌, ◌<◌, ℕ, zero, suc, Bool, true, false, cond, List, [], ◌∷◌, length, map, Contains, refl, sym, ap, subst, true≢false, inl, inr, ⊎_elim, arith}
use Rattle.std.proofs.lemmas.List.{length-map}
use Rattle.std.proofs.lemmas.Bool.{cases_Bool, and_left, and_right, and_from, cond-true, cond-false}
use Rattle.win_vectors.specs.Fronts.{Vector, IsFrontOf, IsReduced}
use Rattle.strategy_games.specs.Games.{Game, mask, IsLawful, IsSettled}
use Rattle.strategy_games.specs.Plans.{Plan, Replies, Stop, Play, Hear, NoReply, Reply, cards_of, stops, Fits, FitEach, ends, ends_each, wins, wins_vector, CanWin, IsFront}
use Rattle.strategy_games.specs.Joins.{unions, joins, WinsByCard, WinsByReply}
use Rattle.strategy_games.specs.Laws.{EndsSomewhere, HasOneFront, HasRecursion, HasSteps}
use Rattle.strategy_games.proofs.Lists.{Contains-here, Contains-there, Contains-nil, Contains-cons, map-agree, AllZip-from, All-from, All-at, filled_or_nil}
use Rattle.strategy_games.proofs.Fronts.{front_unique, front_same, reduced_exists}
use Rattle.strategy_games.proofs.Masks.{map-map}
use Rattle.strategy_games.proofs.Wins.{wins-stop, wins_vector-play, wins-first, lets, states-child, Contains-after}
use Rattle.strategy_games.proofs.Recursion.{CanWin-stop, front-stopped, no_card, more_cards, covered_card, any_order, union_of, no_reply, more_replies, join_of}

-- a plan for each card makes replies to them
pub replies_from : {C : Type 0} (Fit : Replies C → Type 0) (Ok : C → Plan C → Type 0) → Fit NoReply → ((c : C) (q : Plan C) (rs : Replies C) → Ok c q → Fit rs → Fit (Reply c q rs))
    → (cs : List C) → ((c : C) → Contains cs c → (q : Plan C) × Ok c q) → (rs : Replies C) × (cards_of rs ≡ cs) × Fit rs
replies_from Fit Ok none more [] h = (NoReply, refl, none)
replies_from {C} Fit Ok none more (c ∷ cs) h =
    let first = h c (Contains-here c cs) in
    let others = replies_from Fit Ok none more cs (λ d m. h d (Contains-there c cs d m)) in
    (Reply c first.0 others.0, ap (λ (l : List C). c ∷ l) others.1, more c first.0 others.0 first.1 others.2)

-- a list that is [] has no parts
nil_parts : {X : Type 0} (xs ys : List X) → xs ++ ys ≡ [] → (xs ≡ []) × (ys ≡ [])
nil_parts [] ys e = (refl, e)
nil_parts (x ∷ xs) ys e = absurd cc

module _ {N S C : Type 0} (g : Game N S C) where
  pub stops-decided : (n : N) (m : ℕ) → g.is_decided n ≡ true → stops g n m ≡ true
  stops-decided n zero e = refl
  stops-decided n (suc m) e = e

  -- a plan that fits where it stops is Stop
  pub wins-stopped : (p : Plan C) (n : N) (m : ℕ) (s : S) → stops g n m ≡ true → Fits g p n m → wins g p s ≡ g.makes s
  wins-stopped Stop n m s e h = wins-stop g s
  wins-stopped (Play c q) n zero s e h = absurd h
  wins-stopped (Play c q) n (suc m) s e h = absurd (true≢false (sym e ∙ h.0))
  wins-stopped (Hear rs) n m s e h = absurd (true≢false (sym e ∙ h.0))

  module _ (Sound : N → Type 0) (law : IsLawful g Sound) where
    -- ---- where the result is open, the cards give all strategies

    pub by_card_to : (n : N) (m : ℕ) → Sound n → g.is_decided n ≡ false → g.is_ours n ≡ true → (v : Vector) → WinsByCard g n m (g.choices n) v → CanWin g n (suc m) v
    by_card_to n m sound live ours v w = (Play w.0 w.2.0, (live, ours, w.1, w.2.1), wins_vector-play g Sound law n w.0 w.2.0 sound ours w.1 ∙ w.2.2)

    pub by_card_from : (n : N) (m : ℕ) → Sound n → g.is_decided n ≡ false → g.is_ours n ≡ true → (v : Vector) → CanWin g n (suc m) v → WinsByCard g n m (g.choices n) v
    by_card_from n m sound live ours v w = go w.0 w.1 w.2
      where
        go : (p : Plan C) → Fits g p n (suc m) → wins_vector g p n ≡ v → WinsByCard g n m (g.choices n) v
        go Stop h e = absurd (true≢false (sym h ∙ live))
        go (Play c q) h e = (c, h.2, (q, h.3, sym (wins_vector-play g Sound law n c q sound ours h.2) ∙ e))
        go (Hear rs) h e = absurd (true≢false (sym ours ∙ h.1))

    pub by_reply_to : (n : N) (m : ℕ) → g.is_decided n ≡ false → g.is_ours n ≡ false → (v : Vector) → WinsByReply g n (suc m) (g.choices n) v → CanWin g n (suc m) v
    by_reply_to n m live theirs v w = (Hear w.0, (live, theirs, w.1, w.2), w.3)

    pub by_reply_from : (n : N) (m : ℕ) → g.is_decided n ≡ false → g.is_ours n ≡ false → (v : Vector) → CanWin g n (suc m) v → WinsByReply g n (suc m) (g.choices n) v
    by_reply_from n m live theirs v w = go w.0 w.1 w.2
      where
        go : (p : Plan C) → Fits g p n (suc m) → wins_vector g p n ≡ v → WinsByReply g n (suc m) (g.choices n) v
        go Stop h e = absurd (true≢false (sym h ∙ live))
        go (Play c q) h e = absurd (true≢false (sym h.1 ∙ theirs))
        go (Hear rs) h e = (rs, h.2, h.3, e)

    -- ---- each node has a front

    front_within : (k : ℕ) (n : N) (m : ℕ) → g.cards_left n < k → Sound n → (f : List Vector) × IsFront g n m f
    front_within zero n m l sound = absurd (omega arith)
    front_within (suc k) n zero l sound = (map (λ s. g.makes s) (g.states n) ∷ [], front-stopped g n 0 refl)
    front_within (suc k) n (suc m) l sound = go (λ live c mem j. front_within k (g.child n c) j (let less = law.falls n c sound live mem in omega arith) (law.holds n c sound mem)) (cases_Bool (g.is_decided n)) (cases_Bool (g.is_ours n))
      where
        go : (g.is_decided n ≡ false → (c : C) → Contains (g.choices n) c → (j : ℕ) → (f : List Vector) × IsFront g (g.child n c) j f)
            → (g.is_decided n ≡ true) ⊎ (g.is_decided n ≡ false) → (g.is_ours n ≡ true) ⊎ (g.is_ours n ≡ false) → (f : List Vector) × IsFront g n (suc m) f
        go below (inl e) _ = (map (λ s. g.makes s) (g.states n) ∷ [], front-stopped g n (suc m) e)
        go below (inr live) (inl ours) =
            let fs = AllZip-from (λ c f. IsFront g (g.child n c) m f) (g.choices n) (λ c mem. below live c mem m) in
            let r = reduced_exists (unions fs.0) in
            (r.0, front_same (WinsByCard g n m (g.choices n)) (CanWin g n (suc m)) r.0 (by_card_to n m sound live ours) (by_card_from n m sound live ours) (union_of g n m (g.choices n) fs.0 r.0 fs.1 r.1))
        go below (inr live) (inr theirs) =
            let fs = AllZip-from (λ c f. IsFront g (g.child n c) (suc m) f) (g.choices n) (λ c mem. below live c mem (suc m)) in
            let r = reduced_exists (joins (length (g.states n)) (map (λ c. mask g n c) (g.choices n)) fs.0) in
            (r.0, front_same (WinsByReply g n (suc m) (g.choices n)) (CanWin g n (suc m)) r.0 (by_reply_to n m live theirs) (by_reply_from n m live theirs) (join_of g Sound law n (suc m) fs.0 r.0 sound fs.1 r.1))

    pub front_exists : (n : N) (m : ℕ) → Sound n → (f : List Vector) × IsFront g n m f
    front_exists n m sound = front_within (suc (g.cards_left n)) n m (omega arith) sound

    -- ---- each node has a strategy

    plan_within : (k : ℕ) (n : N) (m : ℕ) → g.cards_left n < k → Sound n → (p : Plan C) × Fits g p n m
    plan_within zero n m l sound = absurd (omega arith)
    plan_within (suc k) n zero l sound = (Stop, refl)
    plan_within (suc k) n (suc m) l sound = go (λ live c mem j. plan_within k (g.child n c) j (let less = law.falls n c sound live mem in omega arith) (law.holds n c sound mem)) (cases_Bool (g.is_decided n)) (cases_Bool (g.is_ours n))
      where
        go : (g.is_decided n ≡ false → (c : C) → Contains (g.choices n) c → (j : ℕ) → (p : Plan C) × Fits g p (g.child n c) j)
            → (g.is_decided n ≡ true) ⊎ (g.is_decided n ≡ false) → (g.is_ours n ≡ true) ⊎ (g.is_ours n ≡ false) → (p : Plan C) × Fits g p n (suc m)
        go below (inl e) _ = (Stop, e)
        go below (inr live) (inl ours) = ⊎_elim
            (λ (none : g.choices n ≡ []). absurd (law.some_card n sound (law.ended n sound live) none))
            (λ (some : (c : C) × Contains (g.choices n) c). let q = below live some.0 some.1 m in (Play some.0 q.0, (live, ours, some.1, q.1)))
            (filled_or_nil (g.choices n))
        go below (inr live) (inr theirs) =
            let rs = replies_from (λ rs. FitEach g rs n (suc m)) (λ c q. Fits g q (g.child n c) (suc m)) tt (λ c q rs h k. (h, k)) (g.choices n) (λ c mem. below live c mem (suc m)) in
            (Hear rs.0, (live, theirs, rs.1, rs.2))

    pub plan_exists : (n : N) (m : ℕ) → Sound n → (p : Plan C) × Fits g p n m
    plan_exists n m sound = plan_within (suc (g.cards_left n)) n m (omega arith) sound

    pub front_filled : (n : N) (m : ℕ) (f : List Vector) → Sound n → IsFront g n m f → f ≡ [] → ⊥
    front_filled n m f sound a e =
        let p = plan_exists n m sound in
        let c = a.covered (wins_vector g p.0 n) (p.0, p.1, refl) in
        Contains-nil c.0 (subst (λ (l : List Vector). Contains l c.0) e c.1)

    pub one_front : HasOneFront g Sound
    one_front = record {
      exists = front_exists;
      unique = λ n m f h a b. front_unique (CanWin g n m) f h a b;
      filled = front_filled;
      wide = λ n m f a. All-from (λ v. length v ≡ length (g.states n)) f (λ v mem. let p = a.reached v mem in sym (ap (λ (z : Vector). length z) p.2) ∙ length-map (g.states n) (λ s. wins g p.0 s));
    }

    module _ (settled : IsSettled g Sound) where
      -- ---- where the result is decided, each strategy wins all layouts or none

      stop-decided : (n : N) → Sound n → g.is_decided n ≡ true → wins_vector g Stop n ≡ map (λ s. g.is_made n) (g.states n)
      stop-decided n sound e = map-agree (λ s. wins g Stop s) (λ s. g.is_made n) (g.states n) (λ s m. wins-stop g s ∙ settled.same n s sound e m)

      pub decided_vector : (n : N) (m : ℕ) (v : Vector) → Sound n → g.is_decided n ≡ true → CanWin g n m v → map (λ s. g.is_made n) (g.states n) ≡ v
      decided_vector n m v sound e w = sym (stop-decided n sound e) ∙ CanWin-stop g n m v (stops-decided n m e) w

      pub decided_child : (n : N) (m : ℕ) (c : C) (v : Vector) → Sound n → g.is_decided n ≡ true → g.is_ours n ≡ true → Contains (g.choices n) c → CanWin g (g.child n c) m v → map (λ s. g.is_made n) (g.states n) ≡ v
      decided_child n m c v sound e ours mem w =
          let stays = settled.stays n c sound e mem in
          sym (map-map (λ (s : S). g.is_made n) (λ s. g.after c s) (g.states n)) ∙ sym (ap (λ (l : List S). map (λ s. g.is_made n) l) (states-child g Sound law n c sound ours mem))
          ∙ ap (λ (b : Bool). map (λ s. b) (g.states (g.child n c))) (sym stays.1) ∙ decided_vector (g.child n c) m v (law.holds n c sound mem) stays.0 w

      lets-decided : (n : N) (m : ℕ) (c : C) (q : Plan C) (s : S) → Sound n → g.is_decided n ≡ true → Contains (g.choices n) c → Contains (g.states n) s → Fits g q (g.child n c) m → g.is_legal c s ≡ true → lets g c q s ≡ g.is_made n
      lets-decided n m c q s sound e mem k fit legal =
          let stays = settled.stays n c sound e mem in
          cond-true (g.is_legal c s) (wins g q (g.after c s)) true legal ∙ wins-stopped q (g.child n c) m (g.after c s) (stops-decided (g.child n c) m stays.0) fit
          ∙ settled.same (g.child n c) (g.after c s) (law.holds n c sound mem) stays.0 (Contains-after g Sound law n c s sound mem k legal) ∙ stays.1

      replies-made : (n : N) (m : ℕ) (rs : Replies C) (s : S) → Sound n → g.is_decided n ≡ true → Contains (g.states n) s → g.is_made n ≡ true → ((c : C) → Contains (cards_of rs) c → Contains (g.choices n) c) → FitEach g rs n m → wins g (Hear rs) s ≡ true
      replies-made n m NoReply s sound e k made within fit = refl
      replies-made n m (Reply c q rs) s sound e k made within fit =
          wins-first g c q rs s ∙ and_from (lets g c q s) (wins g (Hear rs) s)
          (⊎_elim (λ (legal : g.is_legal c s ≡ true). lets-decided n m c q s sound e (within c (Contains-here c (cards_of rs))) k fit.0 legal ∙ made) (λ (not_legal : g.is_legal c s ≡ false). cond-false (g.is_legal c s) (wins g q (g.after c s)) true not_legal) (cases_Bool (g.is_legal c s)))
          (replies-made n m rs s sound e k made (λ d l. within d (Contains-there c (cards_of rs) d l)) fit.1)

      replies-failed : (n : N) (m : ℕ) (rs : Replies C) (s : S) → Sound n → g.is_decided n ≡ true → Contains (g.states n) s → g.is_made n ≡ false → ((c : C) → Contains (cards_of rs) c → Contains (g.choices n) c) → FitEach g rs n m
          → (d : C) → Contains (cards_of rs) d → g.is_legal d s ≡ true → wins g (Hear rs) s ≡ false
      replies-failed n m NoReply s sound e k made within fit d mem legal = absurd (Contains-nil d mem)
      replies-failed n m (Reply c q rs) s sound e k made within fit d mem legal = wins-first g c q rs s ∙ ⊎_elim
          (λ (same : c ≡ d). and_left (lets g c q s) (wins g (Hear rs) s) (lets-decided n m c q s sound e (within c (Contains-here c (cards_of rs))) k fit.0 (subst (λ x. g.is_legal x s ≡ true) (sym same) legal) ∙ made))
          (λ (later : Contains (cards_of rs) d). and_right (lets g c q s) (wins g (Hear rs) s) (replies-failed n m rs s sound e k made (λ x l. within x (Contains-there c (cards_of rs) x l)) fit.1 d later legal))
          (Contains-cons c (cards_of rs) d mem)

      decided_replies : (n : N) (m : ℕ) (v : Vector) → Sound n → g.is_over n ≡ false → g.is_decided n ≡ true → WinsByReply g n m (g.choices n) v → map (λ s. g.is_made n) (g.states n) ≡ v
      decided_replies n m v sound on e w = map-agree (λ s. g.is_made n) (λ s. wins g (Hear w.0) s) (g.states n) (λ s k. at s k (cases_Bool (g.is_made n))) ∙ w.3
        where
          within : (c : C) → Contains (cards_of w.0) c → Contains (g.choices n) c
          within c l = subst (λ (x : List C). Contains x c) w.1 l

          at : (s : S) → Contains (g.states n) s → (g.is_made n ≡ true) ⊎ (g.is_made n ≡ false) → g.is_made n ≡ wins g (Hear w.0) s
          at s k (inl made) = made ∙ sym (replies-made n m w.0 s sound e k made within w.2)
          at s k (inr made) = let d = settled.some_legal n s sound on k in made ∙ sym (replies-failed n m w.0 s sound e k made within w.2 d.0 (subst (λ (x : List C). Contains x d.0) (sym w.1) d.1) d.2)

      -- ---- from all cards to the node

      -- what a card wins the node wins
      pub card_wins : (n : N) (m : ℕ) (v : Vector) → Sound n → g.is_ours n ≡ true → WinsByCard g n m (g.choices n) v → CanWin g n (suc m) v
      card_wins n m v sound ours w = ⊎_elim
          (λ (e : g.is_decided n ≡ true). (Stop, e, stop-decided n sound e ∙ decided_child n m w.0 v sound e ours w.1 w.2))
          (λ (live : g.is_decided n ≡ false). by_card_to n m sound live ours v w)
          (cases_Bool (g.is_decided n))

      pub all_cards : (n : N) (m : ℕ) (f : List Vector) → Sound n → g.is_over n ≡ false → g.is_ours n ≡ true → IsFrontOf (WinsByCard g n m (g.choices n)) f → IsFront g n (suc m) f
      all_cards n m f sound on ours a = go (cases_Bool (g.is_decided n)) (filled_or_nil (g.choices n))
        where
          go : (g.is_decided n ≡ true) ⊎ (g.is_decided n ≡ false) → (g.choices n ≡ []) ⊎ ((c : C) × Contains (g.choices n) c) → IsFront g n (suc m) f
          go (inr live) _ = front_same (WinsByCard g n m (g.choices n)) (CanWin g n (suc m)) f (by_card_to n m sound live ours) (by_card_from n m sound live ours) a
          go (inl e) (inl none) = absurd (law.some_card n sound on none)
          go (inl e) (inr some) = front_same (WinsByCard g n m (g.choices n)) (CanWin g n (suc m)) f
              (λ v w. (Stop, e, stop-decided n sound e ∙ decided_child n m w.0 v sound e ours w.1 w.2))
              (λ v w. let stays = settled.stays n some.0 sound e some.1 in (
                some.0,
                some.1,
                (
                  Stop,
                  stops-decided (g.child n some.0) m stays.0,
                  sym (decided_child n m some.0 (wins_vector g Stop (g.child n some.0)) sound e ours some.1 (Stop, stops-decided (g.child n some.0) m stays.0, refl)) ∙ decided_vector n (suc m) v sound e w,
                ),
              )) a

      pub all_replies : (n : N) (m : ℕ) (f : List Vector) → Sound n → g.is_over n ≡ false → g.is_ours n ≡ false → IsFrontOf (WinsByReply g n (suc m) (g.choices n)) f → IsFront g n (suc m) f
      all_replies n m f sound on theirs a = go (cases_Bool (g.is_decided n))
        where
          go : (g.is_decided n ≡ true) ⊎ (g.is_decided n ≡ false) → IsFront g n (suc m) f
          go (inr live) = front_same (WinsByReply g n (suc m) (g.choices n)) (CanWin g n (suc m)) f (by_reply_to n m live theirs) (by_reply_from n m live theirs) a
          go (inl e) =
              let rs = replies_from (λ rs. FitEach g rs n (suc m)) (λ c q. Fits g q (g.child n c) (suc m)) tt (λ c q rs h k. (h, k)) (g.choices n) (λ c mem. (Stop, (settled.stays n c sound e mem).0)) in
              front_same (WinsByReply g n (suc m) (g.choices n)) (CanWin g n (suc m)) f
              (λ v w. (Stop, e, stop-decided n sound e ∙ decided_replies n (suc m) v sound on e w))
              (λ v w. (rs.0, rs.1, rs.2, sym (decided_replies n (suc m) (wins_vector g (Hear rs.0) n) sound on e (rs.0, rs.1, rs.2, refl)) ∙ decided_vector n (suc m) v sound e w)) a

      -- ---- each strategy ends somewhere

      mutual
        ends_somewhere : EndsSomewhere g Sound
        ends_somewhere Stop n m s sound fit k e = absurd cc
        ends_somewhere (Play c q) n zero s sound fit k e = absurd fit
        ends_somewhere (Play c q) n (suc m) s sound fit k e = ends_somewhere q (g.child n c) m (g.after c s) (law.holds n c sound fit.2) fit.3
            (Contains-after g Sound law n c s sound fit.2 k (All-at (λ t. g.is_legal c t ≡ true) (g.states n) (law.seen n c sound fit.1 fit.2) s k)) e
        ends_somewhere (Hear rs) n zero s sound fit k e = absurd (true≢false fit.0)
        ends_somewhere (Hear rs) n (suc m) s sound fit k e =
            let d = settled.some_legal n s sound (law.ended n sound fit.0) k in
            each_ends rs n (suc m) s sound (λ c l. subst (λ (x : List C). Contains x c) fit.2 l) fit.3 k d.0 (subst (λ (x : List C). Contains x d.0) (sym fit.2) d.1) d.2 e

        each_ends : (rs : Replies C) (n : N) (m : ℕ) (s : S) → Sound n → ((c : C) → Contains (cards_of rs) c → Contains (g.choices n) c) → FitEach g rs n m → Contains (g.states n) s
            → (d : C) → Contains (cards_of rs) d → g.is_legal d s ≡ true → ends_each g rs s ≡ [] → ⊥
        each_ends NoReply n m s sound within fit k d mem legal e = Contains-nil d mem
        each_ends (Reply c q rs) n m s sound within fit k d mem legal e =
            let parts = nil_parts (cond (g.is_legal c s) (ends g q (g.after c s)) []) (ends_each g rs s) e in
            ⊎_elim
            (λ (same : c ≡ d).
            let legal_c : g.is_legal c s ≡ true = subst (λ x. g.is_legal x s ≡ true) (sym same) legal in
            let in_choices : Contains (g.choices n) c = within c (Contains-here c (cards_of rs)) in
            ends_somewhere q (g.child n c) m (g.after c s) (law.holds n c sound in_choices) fit.0 (Contains-after g Sound law n c s sound in_choices k legal_c)
            (sym (cond-true (g.is_legal c s) (ends g q (g.after c s)) [] legal_c) ∙ parts.0))
            (λ (later : Contains (cards_of rs) d). each_ends rs n m s sound (λ x l. within x (Contains-there c (cards_of rs) x l)) fit.1 k d later legal parts.1)
            (Contains-cons c (cards_of rs) d mem)

      pub each_strategy_ends : EndsSomewhere g Sound
      each_strategy_ends = ends_somewhere

      pub steps : HasSteps g Sound
      steps = record {
        no_card = no_card g;
        more_cards = more_cards g;
        covered_card = covered_card g;
        any_order = any_order g;
        all_cards = all_cards;
        no_reply = no_reply g;
        more_replies = more_replies g Sound law;
        all_replies = all_replies;
      }

      pub recursion : HasRecursion g Sound
      recursion = record {
        at_stop = front-stopped g;
        at_declarer = λ n m fs f sound on ours a. (
          λ (front : IsFront g n (suc m) f). let r = reduced_exists (unions fs) in subst (IsReduced (unions fs)) (front_unique (CanWin g n (suc m)) r.0 f (all_cards n m r.0 sound on ours (union_of g n m (g.choices n) fs r.0 a r.1)) front) r.1,
          λ (r : IsReduced (unions fs) f). all_cards n m f sound on ours (union_of g n m (g.choices n) fs f a r),
        );
        at_defender = λ n m fs f sound on theirs a. (
          λ (front : IsFront g n (suc m) f). let r = reduced_exists (joins (length (g.states n)) (map (λ c. mask g n c) (g.choices n)) fs) in subst (IsReduced (joins (length (g.states n)) (map (λ c. mask g n c) (g.choices n)) fs)) (front_unique (CanWin g n (suc m)) r.0 f (all_replies n m r.0 sound on theirs (join_of g Sound law n (suc m) fs r.0 sound a r.1)) front) r.1,
          λ (r : IsReduced (joins (length (g.states n)) (map (λ c. mask g n c) (g.choices n)) fs) f). all_replies n m f sound on theirs (join_of g Sound law n (suc m) fs f sound a r),
        );
      }
