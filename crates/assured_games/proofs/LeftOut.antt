-- Lines at a node and at the same node with some layouts left out: what a line secures at the one, some line secures at the other.
use Rattle.std.proofs.Common.{◌≡◌, ◌∙◌, ◌<◌, ℕ, zero, suc, Bool, true, false, List, [], ◌∷◌, Contains, length, map, sym, subst, true≢false, inl, inr, ⊎_elim, arith}
use Rattle.std.specs.List.{items_where_true}
use Rattle.win_vectors.specs.Vectors.{meet_of, spread_of, restrict_of}
use Rattle.win_vectors.specs.Fronts.{Vector, Dominates, IsReduced}
use Rattle.strategy_games.specs.Games.{Game, IsLawful}
use Rattle.strategy_games.proofs.Lists.{Contains-map, Contains-of_map, Contains-of_filter}
use Rattle.strategy_games.proofs.Vectors.{Dominates-refl, Dominates-both}
use Rattle.strategy_games.proofs.Fronts.{front_level}
use Rattle.strategy_games.proofs.Moves.{our_card_legal}
use Rattle.strategy_games.proofs.Wins.{Contains-after}
use Rattle.assured_games.specs.Assured.{Line, Branches, Claim, PlayFor, Move, Wait, cards_of, Secures, SecureEach, IsLine, AreLines, IsAssured, IsAssuredFront}
use Rattle.assured_games.specs.Laws.{IsPlayedOut}
use Rattle.assured_games.specs.Made.{LeavesOut}
use Rattle.assured_games.proofs.Zips.{AtOnes, spread_up, length_zip}
use Rattle.assured_games.proofs.Lines.{carried, found, branches_from, line_for}
use Rattle.assured_games.proofs.Steps.{branch_for}

-- ---- vectors at the layouts that are kept

module _ {S : Type 0} where
  kept_ones : (P : S → Type 0) (v kept : Vector) (ss : List S) → AtOnes P v ss → AtOnes P (restrict_of v kept) (items_where_true kept ss)
  kept_ones P [] [] [] a = tt
  kept_ones P [] [] (s ∷ ss) a = elim a [ ]
  kept_ones P [] (k ∷ kept) [] a = tt
  kept_ones P [] (k ∷ kept) (s ∷ ss) a = elim a [ ]
  kept_ones P (b ∷ v) kept [] a = elim a [ ]
  kept_ones P (b ∷ v) [] (s ∷ ss) a = tt
  kept_ones P (b ∷ v) (true ∷ kept) (s ∷ ss) a = (a.0, kept_ones P v kept ss a.1)
  kept_ones P (b ∷ v) (false ∷ kept) (s ∷ ss) a = kept_ones P v kept ss a.1

  filled_ones : (P : S → Type 0) (v kept : Vector) (ss : List S) → length kept ≡ length ss → AtOnes P v (items_where_true kept ss) → AtOnes P (meet_of (spread_of v kept) kept) ss
  filled_ones P v [] [] e a = tt
  filled_ones P v [] (s ∷ ss) e a = absurd (omega (arith, e))
  filled_ones P v (k ∷ kept) [] e a = absurd (omega (arith, e))
  filled_ones P v (false ∷ kept) (s ∷ ss) e a = (λ one. absurd cc, filled_ones P v kept ss (omega (arith, e)) a)
  filled_ones P [] (true ∷ kept) (s ∷ ss) e a = elim a [ ]
  filled_ones P (true ∷ v) (true ∷ kept) (s ∷ ss) e a = (a.0, filled_ones P v kept ss (omega (arith, e)) a.1)
  filled_ones P (false ∷ v) (true ∷ kept) (s ∷ ss) e a = (λ one. absurd cc, filled_ones P v kept ss (omega (arith, e)) a.1)

module _ {N S C : Type 0} (g : Game N S C) (sure : N → Bool) (Sound : N → Type 0) (law : IsLawful g Sound) (R : N → N → Type 0) (out : LeavesOut g Sound sure R) where
  -- ---- cards

  -- a choice is legal in some layout, and so it is a choice with the other layouts too
  still_choice : (k n : N) (c : C) → Sound k → Sound n → R k n → Contains (g.choices k) c → Contains (g.choices n) c
  still_choice k n c sound whole r mine =
      let after = out.some_layout (g.child k c) (law.holds k c sound mine) in
      let s = Contains-of_map (λ s. g.after c s) _ after.0 (subst (λ (ss : List S). Contains ss after.0) (law.keeps k c sound mine) after.1) in
      let there = Contains-of_filter (λ s. g.is_legal c s) (g.states k) s.0 s.1 in
      out.choice n c s.0 whole (out.layouts k n s.0 r there.0) there.1

  our_choice : (k n : N) (c : C) → Sound k → Sound n → R k n → g.is_ours n ≡ true → Contains (g.choices n) c → Contains (g.choices k) c
  our_choice k n c sound whole r ours mine =
      let here = out.some_layout k sound in
      out.choice k c here.0 sound here.1 (our_card_legal g Sound law n c here.0 whole ours mine (out.layouts k n here.0 r here.1))

  -- a line at n that secures in the layouts of k what P says
  abbrev Keeps : (S → Type 0) → N → N → ℕ → Line S C → Type 0
  Keeps P k n m q = IsLine g sure q n m × ((s : S) → Contains (g.states k) s → P s → Secures g q s)

  -- branches for some cards of n, by a line after each that secures in the layouts of k what P says
  branches_that_keep : (P : S → Type 0) (k n : N) (m : ℕ) (cs : List C)
      → ((c : C) → Contains cs c → (q : Line S C) × IsLine g sure q (g.child n c) m × ((s : S) → Contains (g.states k) s → P s → g.is_legal c s ≡ true → Secures g q (g.after c s)))
      → (bs : Branches S C) × (cards_of bs ≡ cs) × AreLines g sure bs n m × ((s : S) → Contains (g.states k) s → P s → SecureEach g bs s)
  branches_that_keep P k n m cs each =
      let bs = branches_from
      (λ bs. AreLines g sure bs n m × ((s : S) → Contains (g.states k) s → P s → SecureEach g bs s))
      (λ c q. IsLine g sure q (g.child n c) m × ((s : S) → Contains (g.states k) s → P s → g.is_legal c s ≡ true → Secures g q (g.after c s)))
      (tt, λ s among h. tt)
      (λ c q bs ok others. ((ok.0, others.0), λ s among h. (ok.1 s among h, others.1 s among h)))
      cs (λ c among. let q = each c among in (q.0, (q.1, q.2))) in
      (bs.0, bs.1, bs.2.0, bs.2.1)

  -- ---- lines

  -- a claim at a node is one at a node that is decided and sure if the first is
  claim_at : (a b : N) (m : ℕ) → g.is_decided b ≡ g.is_decided a → sure b ≡ sure a → IsLine g sure Claim a m → IsLine g sure Claim b m
  claim_at a b m decided surely fit = ⊎_elim (λ (over : g.is_decided a ≡ true). inl (decided ∙ over)) (λ (is : sure a ≡ true). inr (surely ∙ is)) fit

  -- a line of the whole node is one of the part, without the branches for cards that aren't legal there
  narrowed_within : (left : ℕ) (p : Line S C) (k n : N) (m : ℕ) → g.cards_left n < left → Sound k → Sound n → R k n → IsLine g sure p n m
      → (q : Line S C) × Keeps (Secures g p) k k m q
  narrowed_within zero p k n m low sound whole r fit = absurd (omega arith)
  narrowed_within (suc left) Claim k n m low sound whole r fit = (Claim, (claim_at n k m (out.decided k n r) (out.is_sure k n r) fit, λ s among h. h))
  narrowed_within (suc left) (PlayFor t) k n zero low sound whole r fit = (PlayFor t, (tt, λ s among h. h))
  narrowed_within (suc left) (PlayFor t) k n (suc m) low sound whole r fit = absurd fit
  narrowed_within (suc left) (Move c p) k n zero low sound whole r fit = absurd fit
  narrowed_within (suc left) (Move c p) k n (suc m) low sound whole r fit =
      let ours : g.is_ours k ≡ true = out.turn k n r ∙ fit.1 in
      let mine = our_choice k n c sound whole r fit.1 fit.2 in
      let less = law.falls n c whole fit.0 fit.2 in
      let w = narrowed_within left p (g.child k c) (g.child n c) m (omega arith) (law.holds k c sound mine) (law.holds n c whole fit.2) (out.child k n c r) fit.3 in (
        Move c w.0,
        ((out.decided k n r ∙ fit.0, ours, mine, w.1.0), λ s among h. w.1.1 (g.after c s) (Contains-after g Sound law k c s sound mine among (our_card_legal g Sound law k c s sound ours mine among)) h),
      )
  narrowed_within (suc left) (Wait bs) k n zero low sound whole r fit = absurd (true≢false fit.0)
  narrowed_within (suc left) (Wait bs) k n (suc m) low sound whole r fit =
      let less = branches_that_keep (λ s. SecureEach g bs s) k k (suc m) (g.choices k)
      (λ c mine.
      let theirs = still_choice k n c sound whole r mine in
      let q = branch_for g sure bs n (suc m) c (subst (λ (cs : List C). Contains cs c) (sym fit.2) theirs) fit.3 in
      let fewer = law.falls n c whole fit.0 theirs in
      let w = narrowed_within left q.0 (g.child k c) (g.child n c) (suc m) (omega arith) (law.holds k c sound mine) (law.holds n c whole theirs) (out.child k n c r) q.1 in
      (w.0, w.1.0, λ s among h legal. w.1.1 (g.after c s) (Contains-after g Sound law k c s sound mine among legal) (q.2 s h legal))) in
      (Wait less.0, ((out.decided k n r ∙ fit.0, out.turn k n r ∙ fit.1, less.1, less.2), less.3))

  -- and one of the part is one of the whole node, with any line after the other cards
  module _ (played : IsPlayedOut g Sound) where
    widened_within : (left : ℕ) (p : Line S C) (k n : N) (m : ℕ) → g.cards_left n < left → Sound k → Sound n → R k n → IsLine g sure p k m
        → (q : Line S C) × Keeps (Secures g p) k n m q
    widened_within zero p k n m low sound whole r fit = absurd (omega arith)
    widened_within (suc left) Claim k n m low sound whole r fit = (Claim, (claim_at k n m (sym (out.decided k n r)) (sym (out.is_sure k n r)) fit, λ s among h. h))
    widened_within (suc left) (PlayFor t) k n zero low sound whole r fit = (PlayFor t, (tt, λ s among h. h))
    widened_within (suc left) (PlayFor t) k n (suc m) low sound whole r fit = absurd fit
    widened_within (suc left) (Move c p) k n zero low sound whole r fit = absurd fit
    widened_within (suc left) (Move c p) k n (suc m) low sound whole r fit =
        let live : g.is_decided n ≡ false = sym (out.decided k n r) ∙ fit.0 in
        let theirs = still_choice k n c sound whole r fit.2 in
        let less = law.falls n c whole live theirs in
        let w = widened_within left p (g.child k c) (g.child n c) m (omega arith) (law.holds k c sound fit.2) (law.holds n c whole theirs) (out.child k n c r) fit.3 in (
          Move c w.0,
          ((live, sym (out.turn k n r) ∙ fit.1, theirs, w.1.0), λ s among h. w.1.1 (g.after c s) (Contains-after g Sound law k c s sound fit.2 among (our_card_legal g Sound law k c s sound fit.1 fit.2 among)) h),
        )
    widened_within (suc left) (Wait bs) k n zero low sound whole r fit = absurd (true≢false fit.0)
    widened_within (suc left) (Wait bs) k n (suc m) low sound whole r fit =
        let live : g.is_decided n ≡ false = sym (out.decided k n r) ∙ fit.0 in
        let more = branches_that_keep (λ s. SecureEach g bs s) k n (suc m) (g.choices n)
        (λ c theirs. ⊎_elim
        (λ (some : (s : S) × Contains (g.states k) s × (g.is_legal c s ≡ true)).
        let mine = out.choice k c some.0 sound some.1 some.2 in
        let q = branch_for g sure bs k (suc m) c (subst (λ (cs : List C). Contains cs c) (sym fit.2) mine) fit.3 in
        let fewer = law.falls n c whole live theirs in
        let w = widened_within left q.0 (g.child k c) (g.child n c) (suc m) (omega arith) (law.holds k c sound mine) (law.holds n c whole theirs) (out.child k n c r) q.1 in
        (w.0, w.1.0, λ s among h legal. w.1.1 (g.after c s) (Contains-after g Sound law k c s sound mine among legal) (q.2 s h legal)))
        (λ (none : (s : S) → Contains (g.states k) s → g.is_legal c s ≡ true → ⊥).
        let any = line_for g sure Sound law played (out.some_layout k sound).0 (g.child n c) (suc m) (law.holds n c whole theirs) in
        (any.0, any.1.0, λ s among h legal. absurd (none s among legal)))
        (found (λ s. g.is_legal c s) (g.states k))) in
        (Wait more.0, ((live, sym (out.turn k n r) ∙ fit.1, more.1, more.2), more.3))

    -- ---- what is assured

    module _ (k n : N) (m : ℕ) (kept : Vector) (sound : Sound k) (whole : Sound n) (r : R k n) (wide : length kept ≡ length (g.states n)) (some : g.states k ≡ items_where_true kept (g.states n)) where
      part_assured : (v : Vector) → IsAssured g sure n m v → IsAssured g sure k m (restrict_of v kept)
      part_assured v a =
          let q = narrowed_within (suc (g.cards_left n)) a.0 k n m (omega arith) sound whole r a.1 in
          let here : AtOnes (λ s. Secures g a.0 s) (restrict_of v kept) (g.states k) = subst (λ ss. AtOnes (λ s. Secures g a.0 s) (restrict_of v kept) ss) (sym some) (kept_ones (λ s. Secures g a.0 s) v kept (g.states n) a.2) in
          (q.0, q.1.0, carried (λ s. Secures g a.0 s) (λ s. Secures g q.0 s) (restrict_of v kept) (g.states k) here q.1.1)

      whole_assured : (v : Vector) → IsAssured g sure k m v → IsAssured g sure n m (meet_of (spread_of v kept) kept)
      whole_assured v a =
          let q = widened_within (suc (g.cards_left n)) a.0 k n m (omega arith) sound whole r a.1 in
          let there = carried (λ s. Secures g a.0 s) (λ s. Secures g q.0 s) v (g.states k) a.2 q.1.1 in
          (q.0, q.1.0, filled_ones (λ s. Secures g q.0 s) v kept (g.states n) wide (subst (λ ss. AtOnes (λ s. Secures g q.0 s) v ss) some there))

      pub filled_front : ((v : Vector) → IsAssured g sure n m v → Dominates kept v) → (part front : List Vector) → IsAssuredFront g sure k m part → IsReduced (map (λ v. meet_of (spread_of v kept) kept) part) front → IsAssuredFront g sure n m front
      filled_front lost part front f reduced = front_level (Contains (map (λ v. meet_of (spread_of v kept) kept) part)) (IsAssured g sure n m) front
          (λ v among.
          let u = Contains-of_map (λ v. meet_of (spread_of v kept) kept) part v among in
          (v, subst (λ w. IsAssured g sure n m w) u.2 (whole_assured u.0 (f.reached u.0 u.1)), Dominates-refl v))
          (λ v a.
          let u = f.covered (restrict_of v kept) (part_assured v a) in
          let long : length v ≡ length kept = length_zip (λ s. Secures g a.0 s) v (g.states n) a.2 ∙ sym wide in (
            meet_of (spread_of u.0 kept) kept,
            Contains-map (λ v. meet_of (spread_of v kept) kept) part u.0 u.1,
            Dominates-both (spread_of u.0 kept) kept v (spread_up u.0 v kept long u.2) (lost v a),
          ))
          reduced
