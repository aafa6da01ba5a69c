-- A node and the same node with some layouts left out: what a strategy wins at the one, some strategy wins at the other.
use Rattle.std.proofs.Common.{◌≡◌, ◌⊎◌, ◌∙◌, ◌<◌, ◌≤◌, ℕ, zero, suc, Bool, true, false, List, [], ◌∷◌, Contains, sum_by, refl, sym, subst, true≢false, inl, inr, ⊎_elim, arith}
use Rattle.std.proofs.lemmas.Bool.{cases_Bool, and_from, cond-true, cond-false}
use Rattle.std.proofs.lemmas.List.Sums.{sum_by-cons}
use Rattle.strategy_games.specs.Games.{Game, IsLawful}
use Rattle.strategy_games.specs.Plans.{Plan, Replies, Stop, Play, Hear, cards_of, stops, Fits, FitEach, wins, tree_size}
use Rattle.strategy_games.specs.Laws.{HasSizes}
use Rattle.strategy_games.proofs.Lists.{Contains-here, Contains-there, each_cons, Contains-of_map, Contains-of_filter}
use Rattle.strategy_games.proofs.Moves.{our_card_legal}
use Rattle.strategy_games.proofs.Nodes.{replies_from, plan_exists}
use Rattle.strategy_games.proofs.Wins.{lets, wins-first, Contains-after}
use Rattle.strategy_games.proofs.Chosen.{reply_for}

-- some member passes the test, or none does
some_or_none : {X : Type 0} (p : X → Bool) (xs : List X) → ((x : X) × Contains xs x × (p x ≡ true)) ⊎ ((x : X) → Contains xs x → p x ≡ false)
some_or_none p [] = inr (each_none p)
  where
    each_none : {X : Type 0} (p : X → Bool) (x : X) → Contains [] x → p x ≡ false
    each_none p x among = let low : among.0 < 0 = among.1 in absurd (omega arith)
some_or_none {X} p (x ∷ xs) = ⊎_elim
    (λ (yes' : p x ≡ true). inl (x, Contains-here x xs, yes'))
    (λ (no' : p x ≡ false). ⊎_elim
    (λ (found : (y : X) × Contains xs y × (p y ≡ true)). inl (found.0, Contains-there x xs found.0 found.1, found.2))
    (λ (none : (y : X) → Contains xs y → p y ≡ false). inr (each_cons (λ y. p y ≡ false) x xs no' none))
    (some_or_none p xs))
    (cases_Bool (p x))

-- a sum over no more, of no more
sum_le : {X : Type 0} (f h : X → ℕ) (xs : List X) → ((x : X) → Contains xs x → f x ≤ h x) → sum_by f xs ≤ sum_by h xs
sum_le f h [] each = omega arith
sum_le f h (x ∷ xs) each =
    let first = each x (Contains-here x xs) in
    let others = sum_le f h xs (λ y among. each y (Contains-there x xs y among)) in
    omega (arith, sum_by-cons f x xs, sum_by-cons h x xs)

module _ {N S C : Type 0} (g : Game N S C) (Sound : N → Type 0) where
  -- Play keeps the relation R: where it holds, the first node is the second with some layouts left out
  pub record IsLeftOutByPlay (R : N → N → Type 0) : Type 0 where
    pub turn : (k n : N) → R k n → g.is_ours k ≡ g.is_ours n
    pub decided : (k n : N) → R k n → g.is_decided k ≡ g.is_decided n
    pub cards : (k n : N) → R k n → g.cards_left k ≡ g.cards_left n
    pub layouts : (k n : N) (s : S) → R k n → Contains (g.states k) s → Contains (g.states n) s
    pub some_layout : (k : N) → Sound k → (s : S) × Contains (g.states k) s
    -- what is legal in a layout is a choice
    pub choice : (n : N) (c : C) (s : S) → Sound n → Contains (g.states n) s → g.is_legal c s ≡ true → Contains (g.choices n) c
    pub sums : (k n : N) (size : C → ℕ) → R k n → sum_by size (g.choices k) ≤ sum_by size (g.choices n)
    pub child : (k n : N) (c : C) → R k n → R (g.child k c) (g.child n c)

  module _ (law : IsLawful g Sound) (R : N → N → Type 0) (out : IsLeftOutByPlay R) where
    same_stops : (k n : N) (m : ℕ) → R k n → stops g k m ≡ stops g n m
    same_stops k n zero r = refl
    same_stops k n (suc m) r = out.decided k n r

    -- a choice is legal in some layout, and so it is a choice with the other layouts too
    still_choice : (k n : N) (c : C) → Sound k → Sound n → R k n → Contains (g.choices k) c → Contains (g.choices n) c
    still_choice k n c sound whole r mine =
        let after = out.some_layout (g.child k c) (law.holds k c sound mine) in
        let s = Contains-of_map (λ s. g.after c s) _ after.0 (subst (λ (ss : List S). Contains ss after.0) (law.keeps k c sound mine) after.1) in
        let there = Contains-of_filter (λ s. g.is_legal c s) (g.states k) s.0 s.1 in
        out.choice n c s.0 whole (out.layouts k n s.0 r there.0) there.1

    our_choice : (k n : N) (c : C) → Sound k → Sound n → R k n → g.is_ours n ≡ true → Contains (g.choices n) c → Contains (g.choices k) c
    our_choice k n c sound whole r ours mine =
        let here = out.some_layout k sound in
        out.choice k c here.0 sound here.1 (our_card_legal g Sound law n c here.0 whole ours mine (out.layouts k n here.0 r here.1))

    -- a reply that lets through as much
    lets_more : (k : N) (c : C) (q p : Plan C) (s : S) → Sound k → Contains (g.choices k) c → Contains (g.states k) s
        → ((t : S) → Contains (g.states (g.child k c)) t → wins g q t ≡ true → wins g p t ≡ true)
        → lets g c q s ≡ true → lets g c p s ≡ true
    lets_more k c q p s sound mine among more h = ⊎_elim
        (λ (legal : g.is_legal c s ≡ true). cond-true (g.is_legal c s) (wins g p (g.after c s)) true legal
        ∙ more (g.after c s) (Contains-after g Sound law k c s sound mine among legal) (sym (cond-true (g.is_legal c s) (wins g q (g.after c s)) true legal) ∙ h))
        (λ (illegal : g.is_legal c s ≡ false). cond-false (g.is_legal c s) (wins g p (g.after c s)) true illegal)
        (cases_Bool (g.is_legal c s))

    -- replies, card by card, that win in these layouts whatever was won
    replies_that_win : (n k : N) (m : ℕ) (won : S → Bool) (cs : List C)
        → ((c : C) → Contains cs c → (q : Plan C) × Fits g q (g.child n c) m × ((s : S) → Contains (g.states k) s → won s ≡ true → lets g c q s ≡ true))
        → (rs : Replies C) × (cards_of rs ≡ cs) × FitEach g rs n m × ((s : S) → Contains (g.states k) s → won s ≡ true → wins g (Hear rs) s ≡ true)
    replies_that_win n k m won cs each =
        let rs = replies_from
        (λ rs. FitEach g rs n m × ((s : S) → Contains (g.states k) s → won s ≡ true → wins g (Hear rs) s ≡ true))
        (λ c q. Fits g q (g.child n c) m × ((s : S) → Contains (g.states k) s → won s ≡ true → lets g c q s ≡ true))
        (tt, λ s among h. refl)
        (λ c q rs ok others. (
          (ok.0, others.0),
          λ s among h. wins-first g c q rs s ∙ and_from (lets g c q s) (wins g (Hear rs) s) (ok.1 s among h) (others.1 s among h),
        ))
        cs (λ c among. let q = each c among in (q.0, (q.1, q.2))) in
        (rs.0, rs.1, rs.2.0, rs.2.1)

    -- a strategy of the whole node is one of the part, without the replies to cards that aren't legal there
    narrowed_within : (left : ℕ) (p : Plan C) (k n : N) (m : ℕ) → g.cards_left n < left → Sound k → Sound n → R k n → Fits g p n m
        → (q : Plan C) × Fits g q k m × ((s : S) → Contains (g.states k) s → wins g p s ≡ true → wins g q s ≡ true)
    narrowed_within zero p k n m low sound whole r fit = absurd (omega arith)
    narrowed_within (suc left) Stop k n m low sound whole r fit = (Stop, same_stops k n m r ∙ fit, λ s among h. h)
    narrowed_within (suc left) (Play c q) k n zero low sound whole r fit = absurd fit
    narrowed_within (suc left) (Play c q) k n (suc m) low sound whole r fit =
        let ours : g.is_ours k ≡ true = out.turn k n r ∙ fit.1 in
        let mine = our_choice k n c sound whole r fit.1 fit.2 in
        let less = law.falls n c whole fit.0 fit.2 in
        let w = narrowed_within left q (g.child k c) (g.child n c) m (omega arith) (law.holds k c sound mine) (law.holds n c whole fit.2) (out.child k n c r) fit.3 in (
          Play c w.0,
          (out.decided k n r ∙ fit.0, ours, mine, w.1),
          λ s among h. w.2 (g.after c s) (Contains-after g Sound law k c s sound mine among (our_card_legal g Sound law k c s sound ours mine among)) h,
        )
    narrowed_within (suc left) (Hear rs) k n zero low sound whole r fit = absurd (true≢false fit.0)
    narrowed_within (suc left) (Hear rs) k n (suc m) low sound whole r fit =
        let less = replies_that_win k k (suc m) (λ s. wins g (Hear rs) s) (g.choices k)
        (λ c mine.
        let theirs = still_choice k n c sound whole r mine in
        let q = reply_for g rs n (suc m) c (subst (λ (cs : List C). Contains cs c) (sym fit.2) theirs) fit.3 in
        let fewer = law.falls n c whole fit.0 theirs in
        let w = narrowed_within left q.0 (g.child k c) (g.child n c) (suc m) (omega arith) (law.holds k c sound mine) (law.holds n c whole theirs) (out.child k n c r) q.1 in
        (w.0, w.1, λ s among h. lets_more k c q.0 w.0 s sound mine among w.2 (q.2 s h))) in
        (Hear less.0, (out.decided k n r ∙ fit.0, out.turn k n r ∙ fit.1, less.1, less.2), less.3)

    -- and one of the part is one of the whole node, with any reply to the other cards
    widened_within : (left : ℕ) (p : Plan C) (k n : N) (m : ℕ) → g.cards_left n < left → Sound k → Sound n → R k n → Fits g p k m
        → (q : Plan C) × Fits g q n m × ((s : S) → Contains (g.states k) s → wins g p s ≡ true → wins g q s ≡ true)
    widened_within zero p k n m low sound whole r fit = absurd (omega arith)
    widened_within (suc left) Stop k n m low sound whole r fit = (Stop, sym (same_stops k n m r) ∙ fit, λ s among h. h)
    widened_within (suc left) (Play c q) k n zero low sound whole r fit = absurd fit
    widened_within (suc left) (Play c q) k n (suc m) low sound whole r fit =
        let live : g.is_decided n ≡ false = sym (out.decided k n r) ∙ fit.0 in
        let theirs = still_choice k n c sound whole r fit.2 in
        let less = law.falls n c whole live theirs in
        let w = widened_within left q (g.child k c) (g.child n c) m (omega arith) (law.holds k c sound fit.2) (law.holds n c whole theirs) (out.child k n c r) fit.3 in (
          Play c w.0,
          (live, sym (out.turn k n r) ∙ fit.1, theirs, w.1),
          λ s among h. w.2 (g.after c s) (Contains-after g Sound law k c s sound fit.2 among (our_card_legal g Sound law k c s sound fit.1 fit.2 among)) h,
        )
    widened_within (suc left) (Hear rs) k n zero low sound whole r fit = absurd (true≢false fit.0)
    widened_within (suc left) (Hear rs) k n (suc m) low sound whole r fit =
        let live : g.is_decided n ≡ false = sym (out.decided k n r) ∙ fit.0 in
        let more = replies_that_win n k (suc m) (λ s. wins g (Hear rs) s) (g.choices n)
        (λ c theirs. ⊎_elim
        (λ (found : (s : S) × Contains (g.states k) s × (g.is_legal c s ≡ true)).
        let mine = out.choice k c found.0 sound found.1 found.2 in
        let q = reply_for g rs k (suc m) c (subst (λ (cs : List C). Contains cs c) (sym fit.2) mine) fit.3 in
        let fewer = law.falls n c whole live theirs in
        let w = widened_within left q.0 (g.child k c) (g.child n c) (suc m) (omega arith) (law.holds k c sound mine) (law.holds n c whole theirs) (out.child k n c r) q.1 in
        (w.0, w.1, λ s among h. lets_more k c q.0 w.0 s sound mine among w.2 (q.2 s h)))
        (λ (none : (s : S) → Contains (g.states k) s → g.is_legal c s ≡ false).
        let any = plan_exists g Sound law (g.child n c) (suc m) (law.holds n c whole theirs) in
        (any.0, any.1, λ s among h. cond-false (g.is_legal c s) (wins g any.0 (g.after c s)) true (none s among)))
        (some_or_none (λ s. g.is_legal c s) (g.states k))) in
        (Hear more.0, (live, sym (out.turn k n r) ∙ fit.1, more.1, more.2), more.3)

    module _ (k n : N) (sound : Sound k) (whole : Sound n) (r : R k n) where
      pub narrowed : (p : Plan C) (m : ℕ) → Fits g p n m → (q : Plan C) × Fits g q k m × ((s : S) → Contains (g.states k) s → wins g p s ≡ true → wins g q s ≡ true)
      narrowed p m fit = narrowed_within (suc (g.cards_left n)) p k n m (omega arith) sound whole r fit

      pub widened : (p : Plan C) (m : ℕ) → Fits g p k m → (q : Plan C) × Fits g q n m × ((s : S) → Contains (g.states k) s → wins g p s ≡ true → wins g q s ≡ true)
      widened p m fit = widened_within (suc (g.cards_left n)) p k n m (omega arith) sound whole r fit

    -- the tree of the part is no larger
    module _ (sizes : HasSizes g Sound) where
      smaller_within : (left : ℕ) (k n : N) (m : ℕ) → g.cards_left n < left → Sound k → Sound n → R k n → tree_size g k m ≤ tree_size g n m
      smaller_within zero k n m low sound whole r = absurd (omega arith)
      smaller_within (suc left) k n zero low sound whole r = omega (arith, sizes.at_stop k 0 refl, sizes.at_stop n 0 refl)
      smaller_within (suc left) k n (suc m) low sound whole r = ⊎_elim
          (λ (over : g.is_decided n ≡ true). omega (arith, sizes.at_stop k (suc m) (out.decided k n r ∙ over), sizes.at_stop n (suc m) over))
          (λ (live : g.is_decided n ≡ false).
          let below : (j : ℕ) → sum_by (λ c. tree_size g (g.child k c) j) (g.choices k) ≤ sum_by (λ c. tree_size g (g.child n c) j) (g.choices k) =
          λ j. sum_le (λ c. tree_size g (g.child k c) j) (λ c. tree_size g (g.child n c) j) (g.choices k)
          (λ c mine.
          let theirs = still_choice k n c sound whole r mine in
          let fewer = law.falls n c whole live theirs in
          smaller_within left (g.child k c) (g.child n c) j (omega arith) (law.holds k c sound mine) (law.holds n c whole theirs) (out.child k n c r)) in
          ⊎_elim
          (λ (ours : g.is_ours n ≡ true). omega (
            arith,
            below m,
            out.sums k n (λ c. tree_size g (g.child n c) m) r,
            sizes.at_declarer k m sound (out.decided k n r ∙ live) (out.turn k n r ∙ ours),
            sizes.at_declarer n m whole live ours,
          ))
          (λ (theirs : g.is_ours n ≡ false). omega (
            arith,
            below (suc m),
            out.sums k n (λ c. tree_size g (g.child n c) (suc m)) r,
            sizes.at_defender k m sound (out.decided k n r ∙ live) (out.turn k n r ∙ theirs),
            sizes.at_defender n m whole live theirs,
          ))
          (cases_Bool (g.is_ours n)))
          (cases_Bool (g.is_decided n))

      pub smaller : (k n : N) (m : ℕ) → Sound k → Sound n → R k n → tree_size g k m ≤ tree_size g n m
      smaller k n m sound whole r = smaller_within (suc (g.cards_left n)) k n m (omega arith) sound whole r
