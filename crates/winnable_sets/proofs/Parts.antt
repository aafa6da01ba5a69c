-- Strategies at a node and at the same node with some layouts left out: what one wins at the one, another wins at the other.
use Rattle.std.proofs.Common.{◌≡◌, ◌∙◌, ◌<◌, ℕ, zero, suc, Bool, true, false, List, [], ◌∷◌, length, map, replicate, Contains, refl, sym, subst, true≢false, ⊎_elim, arith}
use Rattle.std.specs.List.{items_where_true}
use Rattle.std.proofs.lemmas.Bool.{cases_Bool, and_from, cond-true, cond-false}
use Rattle.win_vectors.specs.Fronts.{Vector, IsAtLeast, Dominates}
use Rattle.strategy_games.specs.Games.{Game, IsLawful}
use Rattle.strategy_games.specs.Plans.{Plan, Replies, Stop, Play, Hear, cards_of, stops, Fits, FitEach, wins, wins_vector}
use Rattle.strategy_games.proofs.Lists.{Contains-here, Contains-there, Contains-nil, each_cons, Contains-of_map, Contains-of_filter}
use Rattle.strategy_games.proofs.Masks.{Dominates-map, Dominates-of_map, replicate-map}
use Rattle.strategy_games.proofs.Moves.{our_card_legal}
use Rattle.strategy_games.proofs.Nodes.{replies_from, plan_exists}
use Rattle.strategy_games.proofs.Chosen.{reply_for}
use Rattle.strategy_games.proofs.Wins.{wins-first, lets, Contains-after}
use Rattle.assured_games.proofs.Lines.{found}
use Rattle.winnable_sets.specs.Sets.{IsWinnable, IsWonThroughout}
use Rattle.winnable_sets.specs.Parts.{AreParts, HasParts}

-- ---- sets of layouts, layout by layout

module _ {S : Type 0} (F : S → Bool) where
  kept_pass : (set : Vector) (ss : List S) → Dominates (map F ss) set → (s : S) → Contains (items_where_true set ss) s → F s ≡ true
  kept_pass [] [] d s mem = absurd (Contains-nil s mem)
  kept_pass [] (x ∷ ss) d s mem = elim d [ ]
  kept_pass (b ∷ set) [] d s mem = elim d [ ]
  kept_pass (false ∷ set) (x ∷ ss) d s mem = kept_pass set ss d.1 s mem
  kept_pass (true ∷ set) (x ∷ ss) d s mem = each_cons (λ z. F z ≡ true) x (items_where_true set ss) (at_one (F x) d.0) (λ z k. kept_pass set ss d.1 z k) s mem
    where
      at_one : (b : Bool) → IsAtLeast b true → b ≡ true
      at_one true h = refl
      at_one false h = absurd h

  pass_kept : (set : Vector) (ss : List S) → length set ≡ length ss → ((s : S) → Contains (items_where_true set ss) s → F s ≡ true) → Dominates (map F ss) set
  pass_kept [] [] e h = tt
  pass_kept [] (x ∷ ss) e h = absurd (omega (arith, e))
  pass_kept (b ∷ set) [] e h = absurd (omega (arith, e))
  pass_kept (false ∷ set) (x ∷ ss) e h = (at_zero (F x), pass_kept set ss (omega (arith, e)) h)
    where
      at_zero : (b : Bool) → IsAtLeast b false
      at_zero true = tt
      at_zero false = tt
  pass_kept (true ∷ set) (x ∷ ss) e h =
      (at_one (F x) (h x (Contains-here x (items_where_true set ss))), pass_kept set ss (omega (arith, e)) (λ s k. h s (Contains-there x (items_where_true set ss) s k)))
    where
      at_one : (b : Bool) → b ≡ true → IsAtLeast b true
      at_one true is = tt
      at_one false is = absurd (true≢false (sym is))

module _ {N S C : Type 0} (g : Game N S C) where
  -- a plan that wins each layout of the node, in two ways
  pub throughout : (n : N) (p : Plan C) → Dominates (wins_vector g p n) (replicate (length (g.states n)) true) → (s : S) → Contains (g.states n) s → wins g p s ≡ true
  throughout n p d s mem = Dominates-of_map (λ s. wins g p s) (λ s. true) (g.states n) (subst (λ v. Dominates (wins_vector g p n) v) (replicate-map true (g.states n)) d) s mem refl

  pub won_throughout : (n : N) (p : Plan C) → ((s : S) → Contains (g.states n) s → wins g p s ≡ true) → Dominates (wins_vector g p n) (replicate (length (g.states n)) true)
  won_throughout n p each = subst (λ v. Dominates (wins_vector g p n) v) (sym (replicate-map true (g.states n)))
      (Dominates-map (λ s. wins g p s) (λ s. true) (g.states n) (λ s mem is. each s mem))

module _ {N S C : Type 0} (g : Game N S C) (Sound : N → Type 0) (law : IsLawful g Sound) (R : N → N → Type 0) (out : AreParts g Sound R) where
  -- ---- cards

  -- a choice is legal in some layout, and so it is a choice with the other layouts too
  still_choice : (k n : N) (c : C) → Sound k → Sound n → R k n → Contains (g.choices k) c → Contains (g.choices n) c
  still_choice k n c sound whole r mine =
      let after = out.some_layout (g.child k c) (law.holds k c sound mine) in
      let s = Contains-of_map (λ s. g.after c s) _ after.0 (subst (λ (ss : List S). Contains ss after.0) (law.keeps k c sound mine) after.1) in
      let there = Contains-of_filter (λ s. g.is_legal c s) (g.states k) s.0 s.1 in
      out.choice n c s.0 whole (out.layouts k n s.0 r there.0) there.1

  our_choice : (k n : N) (c : C) → Sound k → Sound n → R k n → g.is_ours n ≡ true → Contains (g.choices n) c → Contains (g.choices k) c
  our_choice k n c sound whole r ours mine =
      let here = out.some_layout k sound in
      out.choice k c here.0 sound here.1 (our_card_legal g Sound law n c here.0 whole ours mine (out.layouts k n here.0 r here.1))

  -- a plan at n that wins the layouts of k of which P holds
  abbrev Keeps : (S → Type 0) → N → N → ℕ → Plan C → Type 0
  Keeps P k n m q = Fits g q n m × ((s : S) → Contains (g.states k) s → P s → wins g q s ≡ true)

  -- replies to some cards of n, by a plan after each that wins the layouts of k of which P holds
  replies_that_keep : (P : S → Type 0) (k n : N) (m : ℕ) (cs : List C)
      → ((c : C) → Contains cs c → (q : Plan C) × Fits g q (g.child n c) m × ((s : S) → Contains (g.states k) s → P s → g.is_legal c s ≡ true → wins g q (g.after c s) ≡ true))
      → (rs : Replies C) × (cards_of rs ≡ cs) × FitEach g rs n m × ((s : S) → Contains (g.states k) s → P s → wins g (Hear rs) s ≡ true)
  replies_that_keep P k n m cs each =
      let rs = replies_from
      (λ rs. FitEach g rs n m × ((s : S) → Contains (g.states k) s → P s → wins g (Hear rs) s ≡ true))
      (λ c q. Fits g q (g.child n c) m × ((s : S) → Contains (g.states k) s → P s → g.is_legal c s ≡ true → wins g q (g.after c s) ≡ true))
      (tt, λ s among h. refl)
      (λ c q rs ok others. (
        (ok.0, others.0),
        λ s among h. wins-first g c q rs s ∙ and_from (lets g c q s) (wins g (Hear rs) s)
            (⊎_elim
            (λ (legal : g.is_legal c s ≡ true). cond-true (g.is_legal c s) (wins g q (g.after c s)) true legal ∙ ok.1 s among h legal)
            (λ (no : g.is_legal c s ≡ false). cond-false (g.is_legal c s) (wins g q (g.after c s)) true no)
            (cases_Bool (g.is_legal c s)))
            (others.1 s among h),
      ))
      cs (λ c among. let q = each c among in (q.0, (q.1, q.2))) in
      (rs.0, rs.1, rs.2.0, rs.2.1)

  -- what the reply to a card wins where the card is legal
  replied : (c : C) (q : Plan C) (s : S) → lets g c q s ≡ true → g.is_legal c s ≡ true → wins g q (g.after c s) ≡ true
  replied c q s won legal = sym (cond-true (g.is_legal c s) (wins g q (g.after c s)) true legal) ∙ won

  stops_alike : (a b : N) (m : ℕ) → g.is_decided b ≡ g.is_decided a → stops g a m ≡ true → stops g b m ≡ true
  stops_alike a b zero e stop = refl
  stops_alike a b (suc m) e stop = e ∙ stop

  -- ---- plans

  -- a plan of the whole node is one of the part, without the replies to cards that aren't legal there
  narrowed : (left : ℕ) (p : Plan C) (k n : N) (m : ℕ) → g.cards_left n < left → Sound k → Sound n → R k n → Fits g p n m
      → (q : Plan C) × Keeps (λ s. wins g p s ≡ true) k k m q
  narrowed zero p k n m low sound whole r fit = absurd (omega arith)
  narrowed (suc left) Stop k n m low sound whole r fit = (Stop, (stops_alike n k m (out.decided k n r) fit, λ s among h. h))
  narrowed (suc left) (Play c p) k n zero low sound whole r fit = absurd fit
  narrowed (suc left) (Play c p) k n (suc m) low sound whole r fit =
      let ours : g.is_ours k ≡ true = out.turn k n r ∙ fit.1 in
      let mine = our_choice k n c sound whole r fit.1 fit.2 in
      let less = law.falls n c whole fit.0 fit.2 in
      let w = narrowed left p (g.child k c) (g.child n c) m (omega arith) (law.holds k c sound mine) (law.holds n c whole fit.2) (out.child k n c r) fit.3 in (
        Play c w.0,
        ((out.decided k n r ∙ fit.0, ours, mine, w.1.0), λ s among h. w.1.1 (g.after c s) (Contains-after g Sound law k c s sound mine among (our_card_legal g Sound law k c s sound ours mine among)) h),
      )
  narrowed (suc left) (Hear rs) k n zero low sound whole r fit = absurd (true≢false fit.0)
  narrowed (suc left) (Hear rs) k n (suc m) low sound whole r fit =
      let less = replies_that_keep (λ s. wins g (Hear rs) s ≡ true) k k (suc m) (g.choices k)
      (λ c mine.
      let theirs = still_choice k n c sound whole r mine in
      let q = reply_for g rs n (suc m) c (subst (λ (cs : List C). Contains cs c) (sym fit.2) theirs) fit.3 in
      let fewer = law.falls n c whole fit.0 theirs in
      let w = narrowed left q.0 (g.child k c) (g.child n c) (suc m) (omega arith) (law.holds k c sound mine) (law.holds n c whole theirs) (out.child k n c r) q.1 in
      (w.0, w.1.0, λ s among h legal. w.1.1 (g.after c s) (Contains-after g Sound law k c s sound mine among legal) (replied c q.0 s (q.2 s h) legal))) in
      (Hear less.0, ((out.decided k n r ∙ fit.0, out.turn k n r ∙ fit.1, less.1, less.2), less.3))

  -- and one of the part is one of the whole node, with any plan after the other cards
  widened : (left : ℕ) (p : Plan C) (k n : N) (m : ℕ) → g.cards_left n < left → Sound k → Sound n → R k n → Fits g p k m
      → (q : Plan C) × Keeps (λ s. wins g p s ≡ true) k n m q
  widened zero p k n m low sound whole r fit = absurd (omega arith)
  widened (suc left) Stop k n m low sound whole r fit = (Stop, (stops_alike k n m (sym (out.decided k n r)) fit, λ s among h. h))
  widened (suc left) (Play c p) k n zero low sound whole r fit = absurd fit
  widened (suc left) (Play c p) k n (suc m) low sound whole r fit =
      let live : g.is_decided n ≡ false = sym (out.decided k n r) ∙ fit.0 in
      let theirs = still_choice k n c sound whole r fit.2 in
      let less = law.falls n c whole live theirs in
      let w = widened left p (g.child k c) (g.child n c) m (omega arith) (law.holds k c sound fit.2) (law.holds n c whole theirs) (out.child k n c r) fit.3 in (
        Play c w.0,
        ((live, sym (out.turn k n r) ∙ fit.1, theirs, w.1.0), λ s among h. w.1.1 (g.after c s) (Contains-after g Sound law k c s sound fit.2 among (our_card_legal g Sound law k c s sound fit.1 fit.2 among)) h),
      )
  widened (suc left) (Hear rs) k n zero low sound whole r fit = absurd (true≢false fit.0)
  widened (suc left) (Hear rs) k n (suc m) low sound whole r fit =
      let live : g.is_decided n ≡ false = sym (out.decided k n r) ∙ fit.0 in
      let more = replies_that_keep (λ s. wins g (Hear rs) s ≡ true) k n (suc m) (g.choices n)
      (λ c theirs. ⊎_elim
      (λ (some : (s : S) × Contains (g.states k) s × (g.is_legal c s ≡ true)).
      let mine = out.choice k c some.0 sound some.1 some.2 in
      let q = reply_for g rs k (suc m) c (subst (λ (cs : List C). Contains cs c) (sym fit.2) mine) fit.3 in
      let fewer = law.falls n c whole live theirs in
      let w = widened left q.0 (g.child k c) (g.child n c) (suc m) (omega arith) (law.holds k c sound mine) (law.holds n c whole theirs) (out.child k n c r) q.1 in
      (w.0, w.1.0, λ s among h legal. w.1.1 (g.after c s) (Contains-after g Sound law k c s sound mine among legal) (replied c q.0 s (q.2 s h) legal)))
      (λ (none : (s : S) → Contains (g.states k) s → g.is_legal c s ≡ true → ⊥).
      let any = plan_exists g Sound law (g.child n c) (suc m) (law.holds n c whole theirs) in
      (any.0, any.1, λ s among h legal. absurd (none s among legal)))
      (found (λ s. g.is_legal c s) (g.states k))) in
      (Hear more.0, ((live, sym (out.turn k n r) ∙ fit.1, more.1, more.2), more.3))

  -- ---- what is won

  fewer : (k n : N) (m : ℕ) → Sound k → Sound n → R k n → IsWonThroughout g n m → IsWonThroughout g k m
  fewer k n m sound whole r w =
      let q = narrowed (suc (g.cards_left n)) w.0 k n m (omega arith) sound whole r w.1 in
      (q.0, q.1.0, won_throughout g k q.0 (λ s among. q.1.1 s among (throughout g n w.0 w.2 s (out.layouts k n s r among))))

  module _ (k n : N) (m : ℕ) (set : Vector) (sound : Sound k) (whole : Sound n) (r : R k n) (wide : length set ≡ length (g.states n)) (some : g.states k ≡ items_where_true set (g.states n)) where
    kept_to : IsWonThroughout g k m → IsWinnable g n m set
    kept_to w =
        let q = widened (suc (g.cards_left n)) w.0 k n m (omega arith) sound whole r w.1 in (
          q.0,
          q.1.0,
          pass_kept (λ s. wins g q.0 s) set (g.states n) wide
              (λ s among.
              let here = subst (λ (ss : List S). Contains ss s) (sym some) among in
              q.1.1 s here (throughout g k w.0 w.2 s here)),
        )

    kept_from : IsWinnable g n m set → IsWonThroughout g k m
    kept_from w =
        let q = narrowed (suc (g.cards_left n)) w.0 k n m (omega arith) sound whole r w.1 in (
          q.0,
          q.1.0,
          won_throughout g k q.0
              (λ s among. q.1.1 s among (kept_pass (λ s. wins g w.0 s) set (g.states n) w.2 s (subst (λ (ss : List S). Contains ss s) some among))),
        )

  pub parts : HasParts g Sound R
  parts = record {
    fewer = fewer;
    kept = λ k n m set sound whole r wide some. (kept_to k n m set sound whole r wide some, kept_from k n m set sound whole r wide some);
  }
