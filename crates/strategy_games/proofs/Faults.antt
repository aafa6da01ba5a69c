-- The first plan node at fault: there is none exactly where the plan fits.
use Rattle.std.proofs.Common.{◌≡◌, ◌⊎◌, ◌&&◌, ◌+◌, ◌≤◌, ℕ, zero, suc, Bool, true, false, not, cond, List, [], ◌∷◌, Contains, Option, Some, None, Decides, refl, sym, ap, ap₂, subst, true≢false, inl, inr, ⊎_elim, arith}
use Rattle.std.specs.List.{list_any}
use Rattle.std.proofs.lemmas.Bool.{and_parts, and_from, or_cases, or_left, or_right, not-true, not_from_false}
use Rattle.strategy_games.specs.Games.{Game}
use Rattle.strategy_games.specs.Plans.{Plan, Replies, Stop, Play, Hear, NoReply, Reply, cards_of, stops, Fits, FitEach}
use Rattle.strategy_games.specs.Misfits.{node_count, node_counts, further, or_else, same_cards, belongs, first_misfit, first_misfit_each}
use Rattle.strategy_games.specs.Laws.{HasFirstMisfit}
use Rattle.strategy_games.proofs.Lists.{Contains-here, Contains-there, Contains-nil, Contains-cons}

-- a test before a number
if_none : (b : Bool) (r : Option ℕ) → cond b r (Some 1) ≡ None → (b ≡ true) × (r ≡ None)
if_none true r h = (refl, h)
if_none false r h = absurd cc

further_none : (k : ℕ) (r : Option ℕ) → further k r ≡ None → r ≡ None
further_none k None h = refl
further_none k (Some i) h = absurd cc

or_else_none : (a b : Option ℕ) → or_else a b ≡ None → (a ≡ None) × (b ≡ None)
or_else_none None b h = (refl, h)
or_else_none (Some i) b h = absurd cc

if_some : (b : Bool) (r : Option ℕ) (i : ℕ) → cond b (further 1 r) (Some 1) ≡ Some i → (i ≡ 1) ⊎ ((j : ℕ) × (r ≡ Some j) × (i ≡ 1 + j))
if_some true None i h = absurd cc
if_some true (Some j) i h = inr (j, refl, cc)
if_some false r i h = inl cc

or_else_some : (k : ℕ) (a b : Option ℕ) (i : ℕ) → or_else a (further k b) ≡ Some i → (a ≡ Some i) ⊎ ((j : ℕ) × (b ≡ Some j) × (i ≡ k + j))
or_else_some k (Some x) b i h = inl h
or_else_some k None None i h = absurd cc
or_else_some k None (Some j) i h = inr (j, refl, cc)

module _ {N S C : Type 0} (g : Game N S C) (same : C → C → Bool) (tells : (c d : C) → Decides (same c d) (c ≡ d)) where
  any_from : (cs : List C) (c : C) → Contains cs c → list_any (λ d. same d c) cs ≡ true
  any_from [] c m = absurd (Contains-nil c m)
  any_from (d ∷ cs) c m = ⊎_elim (λ (e : d ≡ c). or_left (same d c) (list_any (λ x. same x c) cs) ((tells d c).1 e)) (λ (k : Contains cs c). or_right (same d c) (list_any (λ x. same x c) cs) (any_from cs c k)) (Contains-cons d cs c m)

  any_gives : (cs : List C) (c : C) → list_any (λ d. same d c) cs ≡ true → Contains cs c
  any_gives [] c h = absurd (true≢false (sym h))
  any_gives (d ∷ cs) c h = go (any_gives cs c) (or_cases (same d c) (list_any (λ x. same x c) cs) h)
    where
      go : (list_any (λ x. same x c) cs ≡ true → Contains cs c) → (same d c ≡ true) ⊎ (list_any (λ x. same x c) cs ≡ true) → Contains (d ∷ cs) c
      go rest (inl e) = subst (Contains (d ∷ cs)) ((tells d c).0 e) (Contains-here d cs)
      go rest (inr k) = Contains-there d cs c (rest k)

  same_cards_from : (cs ds : List C) → cs ≡ ds → same_cards same cs ds ≡ true
  same_cards_from cs ds e = subst (λ l. same_cards same cs l ≡ true) e (own cs)
    where
      own : (l : List C) → same_cards same l l ≡ true
      own [] = refl
      own (x ∷ xs) = and_from (same x x) (same_cards same xs xs) ((tells x x).1 refl) (own xs)

  same_cards_gives : (cs ds : List C) → same_cards same cs ds ≡ true → cs ≡ ds
  same_cards_gives [] [] h = refl
  same_cards_gives [] (d ∷ ds) h = absurd (true≢false (sym h))
  same_cards_gives (c ∷ cs) [] h = absurd (true≢false (sym h))
  same_cards_gives (c ∷ cs) (d ∷ ds) h = let parts = and_parts (same c d) (same_cards same cs ds) h in ap₂ (λ (x : C) (l : List C). x ∷ l) ((tells c d).0 parts.0) (same_cards_gives cs ds parts.1)

  belongs_play : (n : N) (m : ℕ) (c : C) (q : Plan C) → g.is_decided n ≡ false → g.is_ours n ≡ true → Contains (g.choices n) c → belongs g same (Play c q) n (suc m) ≡ true
  belongs_play n m c q live ours mem = and_from (not (g.is_decided n) && g.is_ours n) (list_any (λ d. same d c) (g.choices n)) (and_from (not (g.is_decided n)) (g.is_ours n) (not_from_false (g.is_decided n) live) ours) (any_from (g.choices n) c mem)

  play_belongs : (n : N) (m : ℕ) (c : C) (q : Plan C) → belongs g same (Play c q) n (suc m) ≡ true → (g.is_decided n ≡ false) × (g.is_ours n ≡ true) × Contains (g.choices n) c
  play_belongs n m c q h =
      let parts = and_parts (not (g.is_decided n) && g.is_ours n) (list_any (λ d. same d c) (g.choices n)) h in
      let more = and_parts (not (g.is_decided n)) (g.is_ours n) parts.0 in
      (not-true (g.is_decided n) more.0, more.1, any_gives (g.choices n) c parts.1)

  belongs_hear : (n : N) (m : ℕ) (rs : Replies C) → stops g n m ≡ false → g.is_ours n ≡ false → cards_of rs ≡ g.choices n → belongs g same (Hear rs) n m ≡ true
  belongs_hear n m rs live theirs e = and_from (not (stops g n m) && not (g.is_ours n)) (same_cards same (cards_of rs) (g.choices n)) (and_from (not (stops g n m)) (not (g.is_ours n)) (not_from_false (stops g n m) live) (not_from_false (g.is_ours n) theirs)) (same_cards_from (cards_of rs) (g.choices n) e)

  hear_belongs : (n : N) (m : ℕ) (rs : Replies C) → belongs g same (Hear rs) n m ≡ true → (stops g n m ≡ false) × (g.is_ours n ≡ false) × (cards_of rs ≡ g.choices n)
  hear_belongs n m rs h =
      let parts = and_parts (not (stops g n m) && not (g.is_ours n)) (same_cards same (cards_of rs) (g.choices n)) h in
      let more = and_parts (not (stops g n m)) (not (g.is_ours n)) parts.0 in
      (not-true (stops g n m) more.0, not-true (g.is_ours n) more.1, same_cards_gives (cards_of rs) (g.choices n) parts.1)

  mutual
    no_misfit : (p : Plan C) (n : N) (m : ℕ) → Fits g p n m → first_misfit g same p n m ≡ None
    no_misfit Stop n m h = ap (λ (b : Bool). cond b None (Some 1)) h
    no_misfit (Play c q) n zero h = absurd h
    no_misfit (Play c q) n (suc m) h = ap₂ (λ (b : Bool) (r : Option ℕ). cond b (further 1 r) (Some 1)) (belongs_play n m c q h.0 h.1 h.2) (no_misfit q (g.child n c) m h.3)
    no_misfit (Hear rs) n m h = ap₂ (λ (b : Bool) (r : Option ℕ). cond b (further 1 r) (Some 1)) (belongs_hear n m rs h.0 h.1 h.2) (no_misfit_each rs n m h.3)

    no_misfit_each : (rs : Replies C) (n : N) (m : ℕ) → FitEach g rs n m → first_misfit_each g same rs n m ≡ None
    no_misfit_each NoReply n m h = refl
    no_misfit_each (Reply c q rs) n m h = ap₂ (λ (a b : Option ℕ). or_else a (further (node_count q) b)) (no_misfit q (g.child n c) m h.0) (no_misfit_each rs n m h.1)

  mutual
    fits_from_none : (p : Plan C) (n : N) (m : ℕ) → first_misfit g same p n m ≡ None → Fits g p n m
    fits_from_none Stop n m h = (if_none (stops g n m) None h).0
    fits_from_none (Play c q) n zero h = absurd cc
    fits_from_none (Play c q) n (suc m) h =
        let parts = if_none (belongs g same (Play c q) n (suc m)) (further 1 (first_misfit g same q (g.child n c) m)) h in
        let here = play_belongs n m c q parts.0 in
        (here.0, here.1, here.2, fits_from_none q (g.child n c) m (further_none 1 (first_misfit g same q (g.child n c) m) parts.1))
    fits_from_none (Hear rs) n m h =
        let parts = if_none (belongs g same (Hear rs) n m) (further 1 (first_misfit_each g same rs n m)) h in
        let here = hear_belongs n m rs parts.0 in
        (here.0, here.1, here.2, fit_each_from_none rs n m (further_none 1 (first_misfit_each g same rs n m) parts.1))

    fit_each_from_none : (rs : Replies C) (n : N) (m : ℕ) → first_misfit_each g same rs n m ≡ None → FitEach g rs n m
    fit_each_from_none NoReply n m h = tt
    fit_each_from_none (Reply c q rs) n m h =
        let parts = or_else_none (first_misfit g same q (g.child n c) m) (further (node_count q) (first_misfit_each g same rs n m)) h in
        (fits_from_none q (g.child n c) m parts.0, fit_each_from_none rs n m (further_none (node_count q) (first_misfit_each g same rs n m) parts.1))

  mutual
    misfit_within : (p : Plan C) (n : N) (m i : ℕ) → first_misfit g same p n m ≡ Some i → (1 ≤ i) × (i ≤ node_count p)
    misfit_within Stop n m i h = go (stops g n m) h
      where
        go : (b : Bool) → cond b None (Some 1) ≡ Some i → (1 ≤ i) × (i ≤ 1)
        go true e = absurd cc
        go false e = let is : 1 ≡ i = cc in omega arith
    misfit_within (Play c q) n zero i h = let is : 1 ≡ i = cc in omega arith
    misfit_within (Play c q) n (suc m) i h = ⊎_elim
        (λ (e : i ≡ 1). omega arith)
        (λ (e : (j : ℕ) × (first_misfit g same q (g.child n c) m ≡ Some j) × (i ≡ 1 + j)). let below = misfit_within q (g.child n c) m e.0 e.1 in omega arith)
        (if_some (belongs g same (Play c q) n (suc m)) (first_misfit g same q (g.child n c) m) i h)
    misfit_within (Hear rs) n m i h = ⊎_elim
        (λ (e : i ≡ 1). omega arith)
        (λ (e : (j : ℕ) × (first_misfit_each g same rs n m ≡ Some j) × (i ≡ 1 + j)). let below = misfit_within_each rs n m e.0 e.1 in omega arith)
        (if_some (belongs g same (Hear rs) n m) (first_misfit_each g same rs n m) i h)

    misfit_within_each : (rs : Replies C) (n : N) (m i : ℕ) → first_misfit_each g same rs n m ≡ Some i → (1 ≤ i) × (i ≤ node_counts rs)
    misfit_within_each NoReply n m i h = absurd cc
    misfit_within_each (Reply c q rs) n m i h = ⊎_elim
        (λ (e : first_misfit g same q (g.child n c) m ≡ Some i). let below = misfit_within q (g.child n c) m i e in omega arith)
        (λ (e : (j : ℕ) × (first_misfit_each g same rs n m ≡ Some j) × (i ≡ node_count q + j)). let below = misfit_within_each rs n m e.0 e.1 in omega arith)
        (or_else_some (node_count q) (first_misfit g same q (g.child n c) m) (first_misfit_each g same rs n m) i h)

  pub misfits : HasFirstMisfit g same
  misfits = record { none = λ p n m. (no_misfit p n m, fits_from_none p n m); within = misfit_within }
