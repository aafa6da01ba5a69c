-- Lines of play: the plan that each is, the longer one that it becomes, and the line that a plan is.
use Rattle.std.proofs.Common.{◌≡◌, ◌⊎◌, ◌∙◌, ◌<◌, ℕ, zero, suc, Bool, true, false, List, [], ◌∷◌, length, map, replicate, Contains, refl, sym, ap, subst, true≢false, inl, inr, ⊎_elim, arith}
use Rattle.std.specs.List.{AllZip}
use Rattle.std.proofs.lemmas.Bool.{cases_Bool, and_parts, and_from, cond-true, cond-false}
use Rattle.win_vectors.specs.Fronts.{Vector, Dominates, IsAtLeast}
use Rattle.strategy_games.specs.Games.{Game, IsLawful}
use Rattle.strategy_games.specs.Plans.{Plan, Replies, Stop, Play, Hear, NoReply, Reply, Fits, FitEach, wins, wins_vector}
use Rattle.strategy_games.specs.Plans as plans
use Rattle.strategy_games.proofs.Lists.{Contains-here, Contains-there, Contains-nil, Contains-cons, filled_or_nil}
use Rattle.strategy_games.proofs.Vectors.{Dominates-refl}
use Rattle.strategy_games.proofs.Masks.{Dominates-of_map, replicate-map}
use Rattle.strategy_games.proofs.Wins.{wins-stop, wins-first, lets, Contains-after}
use Rattle.strategy_games.proofs.Nodes.{stops-decided}
use Rattle.strategy_games.proofs.Moves.{our_card_legal}
use Rattle.assured_games.specs.Assured.{Line, Branches, Claim, PlayFor, Move, Wait, NoBranch, Branch, cards_of, Secures, SecureEach, IsLine, AreLines}
use Rattle.assured_games.specs.Laws.{IsPlayedOut, IsSureOfAll}

-- ---- vectors with a 1 at no other layouts

at_least : (a b : Bool) → (b ≡ true → a ≡ true) → IsAtLeast a b
at_least true b h = tt
at_least false false h = tt
at_least false true h = absurd (true≢false (sym (h refl)))

module _ {S : Type 0} where
  pub dominated : (F : S → Bool) (P : S → Type 0) (v : Vector) (ss : List S) → AllZip (λ b s. b ≡ true → P s) v ss
      → ((s : S) → Contains ss s → P s → F s ≡ true) → Dominates (map F ss) v
  dominated F P [] [] a h = tt
  dominated F P [] (s ∷ ss) a h = elim a [ ]
  dominated F P (b ∷ v) [] a h = elim a [ ]
  dominated F P (b ∷ v) (s ∷ ss) a h = (at_least (F s) b (λ e. h s (Contains-here s ss) (a.0 e)), dominated F P v ss a.1 (λ x m. h x (Contains-there s ss x m)))

  pub carried : (P Q : S → Type 0) (v : Vector) (ss : List S) → AllZip (λ b s. b ≡ true → P s) v ss
      → ((s : S) → Contains ss s → P s → Q s) → AllZip (λ b s. b ≡ true → Q s) v ss
  carried P Q [] [] a h = tt
  carried P Q [] (s ∷ ss) a h = elim a [ ]
  carried P Q (b ∷ v) [] a h = elim a [ ]
  carried P Q (b ∷ v) (s ∷ ss) a h = (λ e. h s (Contains-here s ss) (a.0 e), carried P Q v ss a.1 (λ x m. h x (Contains-there s ss x m)))

  pub marked : (F : S → Bool) (P : S → Type 0) (ss : List S) → ((s : S) → Contains ss s → F s ≡ true → P s)
      → AllZip (λ b s. b ≡ true → P s) (map F ss) ss
  marked F P [] h = tt
  marked F P (s ∷ ss) h = (h s (Contains-here s ss), marked F P ss (λ x m. h x (Contains-there s ss x m)))

-- a member that passes a test, or all fail it
pub found : {X : Type 0} (f : X → Bool) (xs : List X) → ((x : X) × Contains xs x × (f x ≡ true)) ⊎ ((x : X) → Contains xs x → f x ≡ true → ⊥)
found f [] = inr (λ x m e. Contains-nil x m)
found {X} f (x ∷ xs) = go (f x) refl (found f xs)
  where
    go : (b : Bool) → f x ≡ b → ((y : X) × Contains xs y × (f y ≡ true)) ⊎ ((y : X) → Contains xs y → f y ≡ true → ⊥)
        → ((y : X) × Contains (x ∷ xs) y × (f y ≡ true)) ⊎ ((y : X) → Contains (x ∷ xs) y → f y ≡ true → ⊥)
    go true is rest = inl (x, Contains-here x xs, is)
    go false is (inl y) = inl (y.0, Contains-there x xs y.0 y.1, y.2)
    go false is (inr none) = inr (λ y m e. ⊎_elim (λ (same : x ≡ y). true≢false (sym e ∙ ap f (sym same) ∙ is)) (λ (k : Contains xs y). none y k e) (Contains-cons x xs y m))

-- a line for each card makes branches for them
pub branches_from : {S C : Type 0} (Fit : Branches S C → Type 0) (Ok : C → Line S C → Type 0) → Fit NoBranch
    → ((c : C) (p : Line S C) (bs : Branches S C) → Ok c p → Fit bs → Fit (Branch c p bs))
    → (cs : List C) → ((c : C) → Contains cs c → (p : Line S C) × Ok c p) → (bs : Branches S C) × (cards_of bs ≡ cs) × Fit bs
branches_from Fit Ok none more [] h = (NoBranch, refl, none)
branches_from {S} {C} Fit Ok none more (c ∷ cs) h =
    let first = h c (Contains-here c cs) in
    let others = branches_from Fit Ok none more cs (λ d m. h d (Contains-there c cs d m)) in
    (Branch c first.0 others.0, ap (λ (l : List C). c ∷ l) others.1, more c first.0 others.0 first.1 others.2)

module _ {N S C : Type 0} (g : Game N S C) (sure : N → Bool) (Sound : N → Type 0) (law : IsLawful g Sound) where
  -- ---- a line is a plan

  module _ (sure_of : IsSureOfAll g Sound sure) where
    -- what a plan that wins each layout wins in one of them
    each_won : (n : N) (q : Plan C) → wins_vector g q n ≡ replicate (length (g.states n)) true → (s : S) → Contains (g.states n) s → wins g q s ≡ true
    each_won n q all s k = Dominates-of_map (λ s. wins g q s) (λ s. true) (g.states n)
        (subst (λ z. Dominates (wins_vector g q n) z) (all ∙ replicate-map true (g.states n)) (Dominates-refl (wins_vector g q n))) s k refl

    -- a plan that wins each layout that a line secures
    abbrev pub PlanFor : Line S C → N → ℕ → Type 0
    PlanFor p n m = (q : Plan C) × Fits g q n m × ((s : S) → Contains (g.states n) s → Secures g p s → wins g q s ≡ true)

    -- the same reply by reply
    abbrev pub RepliesFor : Branches S C → N → ℕ → Type 0
    RepliesFor bs n m = (rs : Replies C) × (plans.cards_of rs ≡ cards_of bs) × FitEach g rs n m × ((s : S) → Contains (g.states n) s → SecureEach g bs s → wins g (Hear rs) s ≡ true)

    -- a plan after a card, before the replies to other cards
    reply_first : (n : N) (m : ℕ) (c : C) (p : Line S C) (bs : Branches S C) → Sound n → Contains (g.choices n) c → PlanFor p (g.child n c) m → RepliesFor bs n m → RepliesFor (Branch c p bs) n m
    reply_first n m c p bs sound choice r o = (
      Reply c r.0 o.0,
      ap (λ (l : List C). c ∷ l) o.1,
      (r.1, o.2),
      λ s k h. wins-first g c r.0 o.0 s ∙ and_from (lets g c r.0 s) (wins g (Hear o.0) s)
          (⊎_elim
          (λ (legal : g.is_legal c s ≡ true). cond-true (g.is_legal c s) (wins g r.0 (g.after c s)) true legal ∙ r.2 (g.after c s) (Contains-after g Sound law n c s sound choice k legal) (h.0 legal))
          (λ (not_legal : g.is_legal c s ≡ false). cond-false (g.is_legal c s) (wins g r.0 (g.after c s)) true not_legal)
          (cases_Bool (g.is_legal c s)))
          (o.3 s k h.1),
    )

    mutual
      pub as_plan : (p : Line S C) (n : N) (m : ℕ) → Sound n → IsLine g sure p n m → PlanFor p n m
      as_plan Claim n m sound (inl over) = (Stop, stops-decided g n m over, λ s k h. wins-stop g s ∙ h)
      as_plan Claim n m sound (inr is) = let w = sure_of n m sound is in (w.0, w.1, λ s k h. each_won n w.0 w.2 s k)
      as_plan (PlayFor t) n zero sound fit = (Stop, refl, λ s k h. wins-stop g s ∙ h.1)
      as_plan (PlayFor t) n (suc m) sound fit = absurd fit
      as_plan (Move c p) n zero sound fit = absurd fit
      as_plan (Move c p) n (suc m) sound fit =
          let r = as_plan p (g.child n c) m (law.holds n c sound fit.2) fit.3 in
          (Play c r.0, (fit.0, fit.1, fit.2, r.1), λ s k h. r.2 (g.after c s) (Contains-after g Sound law n c s sound fit.2 k (our_card_legal g Sound law n c s sound fit.1 fit.2 k)) h)
      as_plan (Wait bs) n m sound fit =
          let r = as_replies bs n m sound (λ d l. subst (λ (x : List C). Contains x d) fit.2 l) fit.3 in
          (Hear r.0, (fit.0, fit.1, r.1 ∙ fit.2, r.2), r.3)

      as_replies : (bs : Branches S C) (n : N) (m : ℕ) → Sound n → ((c : C) → Contains (cards_of bs) c → Contains (g.choices n) c) → AreLines g sure bs n m → RepliesFor bs n m
      as_replies NoBranch n m sound within fit = (NoReply, refl, tt, λ s k h. refl)
      as_replies (Branch c p bs) n m sound within fit =
          let choice : Contains (g.choices n) c = within c (Contains-here c (cards_of bs)) in
          reply_first n m c p bs sound choice (as_plan p (g.child n c) m (law.holds n c sound choice) fit.0) (as_replies bs n m sound (λ x l. within x (Contains-there c (cards_of bs) x l)) fit.1)

  -- ---- a line for one layout, by double dummy

  module _ (played : IsPlayedOut g Sound) where
    -- what the line for layout t has to win
    abbrev Follows : S → N → ℕ → Line S C → Type 0
    Follows t n m p = IsLine g sure p n m × (Contains (g.states n) t → g.makes t ≡ true → Secures g p t)

    -- lines for each layout after each card
    abbrev Below : N → Type 0
    Below n = g.is_decided n ≡ false → (c : C) → Contains (g.choices n) c → (s : S) (j : ℕ) → (p : Line S C) × Follows s (g.child n c) j p

    follow : (k : ℕ) (t : S) (n : N) (m : ℕ) → g.cards_left n < k → Sound n → (p : Line S C) × Follows t n m p
    follow zero t n m l sound = absurd (omega arith)
    follow (suc k) t n zero l sound = (PlayFor t, (tt, λ mem made. (refl, made)))
    follow (suc k) t n (suc m) l sound = go (λ live c choice s j. follow k s (g.child n c) j (let less = law.falls n c sound live choice in omega arith) (law.holds n c sound choice)) (cases_Bool (g.is_decided n)) (cases_Bool (g.is_ours n))
      where
        by_move : Below n → g.is_decided n ≡ false → g.is_ours n ≡ true → ((c : C) × Contains (g.choices n) c × (g.makes (g.after c t) ≡ true)) ⊎ ((c : C) → Contains (g.choices n) c → g.makes (g.after c t) ≡ true → ⊥)
            → (p : Line S C) × Follows t n (suc m) p
        by_move below live ours (inl c) =
            let q = below live c.0 c.1 (g.after c.0 t) m in
            (Move c.0 q.0, ((live, ours, c.1, q.1.0), λ mem made. q.1.1 (Contains-after g Sound law n c.0 t sound c.1 mem (our_card_legal g Sound law n c.0 t sound ours c.1 mem)) c.2))
        by_move below live ours (inr none) = ⊎_elim
            (λ (empty : g.choices n ≡ []). absurd (law.some_card n sound (law.ended n sound live) empty))
            (λ (some : (c : C) × Contains (g.choices n) c).
            let q = below live some.0 some.1 t m in
            (Move some.0 q.0, ((live, ours, some.1, q.1.0), λ mem made. absurd (let c = played.ours n t sound mem live ours made in none c.0 c.1 c.2))))
            (filled_or_nil (g.choices n))

        by_branches : Below n → g.is_decided n ≡ false → g.is_ours n ≡ false → (p : Line S C) × Follows t n (suc m) p
        by_branches below live theirs =
            let bs = branches_from
            (λ bs. AreLines g sure bs n (suc m) × (Contains (g.states n) t → g.makes t ≡ true → SecureEach g bs t))
            (λ c p. IsLine g sure p (g.child n c) (suc m) × (Contains (g.states n) t → g.makes t ≡ true → g.is_legal c t ≡ true → Secures g p (g.after c t)))
            (tt, λ mem made. tt)
            (λ c p bs ok others. ((ok.0, others.0), λ mem made. (ok.1 mem made, others.1 mem made)))
            (g.choices n)
            (λ c choice.
            let q = below live c choice (g.after c t) (suc m) in
            (q.0, (q.1.0, λ mem made legal. q.1.1 (Contains-after g Sound law n c t sound choice mem legal) (played.theirs n t c sound mem live theirs made choice legal)))) in
            (Wait bs.0, ((live, theirs, bs.1, bs.2.0), bs.2.1))

        go : Below n → (g.is_decided n ≡ true) ⊎ (g.is_decided n ≡ false) → (g.is_ours n ≡ true) ⊎ (g.is_ours n ≡ false) → (p : Line S C) × Follows t n (suc m) p
        go below (inl over) _ = (Claim, (inl over, λ mem made. made))
        go below (inr live) (inl ours) = by_move below live ours (found (λ c. g.makes (g.after c t)) (g.choices n))
        go below (inr live) (inr theirs) = by_branches below live theirs

    pub line_for : (t : S) (n : N) (m : ℕ) → Sound n → (p : Line S C) × Follows t n m p
    line_for t n m sound = follow (suc (g.cards_left n)) t n m (omega arith) sound

    -- ---- a move more

    mutual
      pub longer : (p : Line S C) (n : N) (m : ℕ) → Sound n → IsLine g sure p n m
          → (q : Line S C) × IsLine g sure q n (suc m) × ((s : S) → Contains (g.states n) s → Secures g p s → Secures g q s)
      longer Claim n m sound fit = (Claim, fit, λ s k h. h)
      longer (PlayFor t) n zero sound fit =
          let r = line_for t n 1 sound in
          (r.0, r.1.0, λ s k h. subst (λ x. Secures g r.0 x) h.0 (r.1.1 (subst (λ x. Contains (g.states n) x) (sym h.0) k) (ap (λ x. g.makes x) h.0 ∙ h.1)))
      longer (PlayFor t) n (suc m) sound fit = absurd fit
      longer (Move c p) n zero sound fit = absurd fit
      longer (Move c p) n (suc m) sound fit =
          let r = longer p (g.child n c) m (law.holds n c sound fit.2) fit.3 in
          (Move c r.0, (fit.0, fit.1, fit.2, r.1), λ s k h. r.2 (g.after c s) (Contains-after g Sound law n c s sound fit.2 k (our_card_legal g Sound law n c s sound fit.1 fit.2 k)) h)
      longer (Wait bs) n zero sound fit = absurd (true≢false fit.0)
      longer (Wait bs) n (suc m) sound fit =
          let r = longer_each bs n (suc m) sound (λ d l. subst (λ (x : List C). Contains x d) fit.2 l) fit.3 in
          (Wait r.0, (fit.0, fit.1, r.1 ∙ fit.2, r.2), r.3)

      longer_each : (bs : Branches S C) (n : N) (m : ℕ) → Sound n → ((c : C) → Contains (cards_of bs) c → Contains (g.choices n) c) → AreLines g sure bs n m
          → (more : Branches S C) × (cards_of more ≡ cards_of bs) × AreLines g sure more n (suc m) × ((s : S) → Contains (g.states n) s → SecureEach g bs s → SecureEach g more s)
      longer_each NoBranch n m sound within fit = (NoBranch, refl, tt, λ s k h. tt)
      longer_each (Branch c p bs) n m sound within fit =
          let choice : Contains (g.choices n) c = within c (Contains-here c (cards_of bs)) in
          let r = longer p (g.child n c) m (law.holds n c sound choice) fit.0 in
          let o = longer_each bs n m sound (λ x l. within x (Contains-there c (cards_of bs) x l)) fit.1 in (
            Branch c r.0 o.0,
            ap (λ (l : List C). c ∷ l) o.1,
            (r.1, o.2),
            λ s k h. (λ legal. r.2 (g.after c s) (Contains-after g Sound law n c s sound choice k legal) (h.0 legal), o.3 s k h.1),
          )

  -- ---- a plan of all cards is a line

  mutual
    pub as_line : (q : Plan C) (n : N) (m : ℕ) → Sound n → g.cards_left n < m → Fits g q n m
        → (p : Line S C) × IsLine g sure p n m × ((s : S) → Contains (g.states n) s → wins g q s ≡ true → Secures g p s)
    as_line Stop n zero sound l fit = absurd (omega arith)
    as_line Stop n (suc m) sound l fit = (Claim, inl fit, λ s k h. sym (wins-stop g s) ∙ h)
    as_line (Play c q) n zero sound l fit = absurd fit
    as_line (Play c q) n (suc m) sound l fit =
        let less = law.falls n c sound fit.0 fit.2 in
        let r = as_line q (g.child n c) m (law.holds n c sound fit.2) (omega arith) fit.3 in
        (Move c r.0, (fit.0, fit.1, fit.2, r.1), λ s k h. r.2 (g.after c s) (Contains-after g Sound law n c s sound fit.2 k (our_card_legal g Sound law n c s sound fit.1 fit.2 k)) h)
    as_line (Hear rs) n zero sound l fit = absurd (omega arith)
    as_line (Hear rs) n (suc m) sound l fit =
        let r = as_lines rs n (suc m) sound fit.0 l (λ d k. subst (λ (x : List C). Contains x d) fit.2 k) fit.3 in
        (Wait r.0, (fit.0, fit.1, r.1 ∙ fit.2, r.2), r.3)

    as_lines : (rs : Replies C) (n : N) (m : ℕ) → Sound n → g.is_decided n ≡ false → g.cards_left n < m → ((c : C) → Contains (plans.cards_of rs) c → Contains (g.choices n) c) → FitEach g rs n m
        → (bs : Branches S C) × (cards_of bs ≡ plans.cards_of rs) × AreLines g sure bs n m × ((s : S) → Contains (g.states n) s → wins g (Hear rs) s ≡ true → SecureEach g bs s)
    as_lines NoReply n m sound live l within fit = (NoBranch, refl, tt, λ s k h. tt)
    as_lines (Reply c q rs) n m sound live l within fit =
        let choice : Contains (g.choices n) c = within c (Contains-here c (plans.cards_of rs)) in
        let less = law.falls n c sound live choice in
        let r = as_line q (g.child n c) m (law.holds n c sound choice) (omega arith) fit.0 in
        let o = as_lines rs n m sound live l (λ x k. within x (Contains-there c (plans.cards_of rs) x k)) fit.1 in (
          Branch c r.0 o.0,
          ap (λ (l : List C). c ∷ l) o.1,
          (r.1, o.2),
          λ s k h.
              let parts = and_parts (lets g c q s) (wins g (Hear rs) s) (sym (wins-first g c q rs s) ∙ h) in
              (λ legal. r.2 (g.after c s) (Contains-after g Sound law n c s sound choice k legal) (sym (cond-true (g.is_legal c s) (wins g q (g.after c s)) true legal) ∙ parts.0), o.3 s k parts.1),
        )
