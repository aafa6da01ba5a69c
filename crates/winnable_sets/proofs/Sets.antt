-- What is winnable, and the bracket round the best.
use Rattle.std.proofs.Common.{◌≡◌, ◌+◌, ◌≤◌, ◌<◌, ◌∙◌, ℕ, Bool, true, false, List, [], ◌∷◌, length, map, replicate, Contains, refl, sym, ap, subst, true≢false, arith}
use Rattle.std.specs.List.{AllZip}
use Rattle.std.proofs.lemmas.List.{length-map}
use Rattle.win_vectors.specs.Vectors.{ones_of}
use Rattle.win_vectors.specs.Fronts.{Vector, IsAtLeast, Dominates, Covers}
use Rattle.win_vectors.specs.Weights.{IsMonotone}
use Rattle.strategy_games.specs.Games.{Game, IsLawful, IsDoubleDummy}
use Rattle.strategy_games.specs.Plans.{wins, wins_vector, IsFront}
use Rattle.strategy_games.specs.Choosing.{IsBestBy}
use Rattle.strategy_games.proofs.Vectors.{Dominates-trans}
use Rattle.strategy_games.proofs.Masks.{Dominates-map, replicate-map}
use Rattle.strategy_games.proofs.Nodes.{plan_exists, front_exists}
use Rattle.strategy_games.proofs.Measures.{best_most}
use Rattle.strategy_games.proofs.Cuts.{more_moves_law}
use Rattle.assured_games.specs.Assured.{IsAssured, PlayFor}
use Rattle.assured_games.specs.Laws.{IsPlayedOut, IsSureOfAll}
use Rattle.assured_games.specs.Made.{results}
use Rattle.assured_games.proofs.Between.{bracketed}
use Rattle.winnable_sets.specs.Sets.{IsWinnable, IsCore}
use Rattle.winnable_sets.specs.Laws.{HasSets, HasSetBracket}
use Rattle.winnable_sets.proofs.Turns.{less_winnable, made}

module _ {S : Type 0} (F : S → Bool) where
  -- no 1 is anywhere
  no_ones : (P : S → Type 0) (v : Vector) (ss : List S) → ones_of v ≡ 0 → Dominates (map F ss) v → AllZip (λ b s. b ≡ true → P s) v ss
  no_ones P [] [] e d = tt
  no_ones P [] (s ∷ ss) e d = elim d [ ]
  no_ones P (b ∷ v) [] e d = elim d [ ]
  no_ones P (true ∷ v) (s ∷ ss) e d = absurd (omega arith)
  no_ones P (false ∷ v) (s ∷ ss) e d = (λ one. absurd (true≢false (sym one)), no_ones P v ss (omega arith) d.1)

  passes : (s : S) (v : Vector) (ss : List S) → Dominates (map F (s ∷ ss)) (true ∷ v) → F s ≡ true
  passes s v ss d = go (F s) d.0
    where
      go : (b : Bool) → IsAtLeast b true → b ≡ true
      go true h = refl
      go false h = absurd h

  -- the only 1
  only_one : (v : Vector) (ss : List S) → ones_of v ≡ 1 → Dominates (map F ss) v → (t : S) × AllZip (λ b s. b ≡ true → (t ≡ s) × (F s ≡ true)) v ss
  only_one [] ss e d = absurd (omega arith)
  only_one (b ∷ v) [] e d = elim d [ ]
  only_one (true ∷ v) (s ∷ ss) e d = (s, (λ one. (refl, passes s v ss d), no_ones (λ x. (s ≡ x) × (F x ≡ true)) v ss (omega arith) d.1))
  only_one (false ∷ v) (s ∷ ss) e d =
      let later = only_one v ss (omega arith) d.1 in
      (later.0, (λ one. absurd (true≢false (sym one)), later.1))

module _ {N S C : Type 0} (g : Game N S C) (Sound : N → Type 0) (law : IsLawful g Sound) where
  front_to : (n : N) (m : ℕ) (set : Vector) (f : List Vector) → IsFront g n m f → IsWinnable g n m set → Covers f set
  front_to n m set f a w =
      let u = a.covered (wins_vector g w.0 n) (w.0, w.1, refl) in
      (u.0, u.1, Dominates-trans u.0 (wins_vector g w.0 n) set u.2 w.2)

  front_from : (n : N) (m : ℕ) (set : Vector) (f : List Vector) → IsFront g n m f → Covers f set → IsWinnable g n m set
  front_from n m set f a u =
      let p = a.reached u.0 u.1 in
      (p.0, p.1, subst (λ v. Dominates v set) (sym p.2) u.2)

  none : (n : N) (m : ℕ) → Sound n → IsWinnable g n m (replicate (length (g.states n)) false)
  none n m sound =
      let p = plan_exists g Sound law n m sound in (
        p.0,
        p.1,
        subst (λ v. Dominates (wins_vector g p.0 n) v) (sym (replicate-map false (g.states n)))
            (Dominates-map (λ s. wins g p.0 s) (λ s. false) (g.states n) (λ s among is. absurd (true≢false (sym is)))),
      )

  module _ (double : IsDoubleDummy g Sound) (played : IsPlayedOut g Sound) where
    never : IsSureOfAll g Sound (λ n. false)
    never n m sound is = absurd (true≢false (sym is))

    -- what is assured is winnable
    assured : (n : N) (m extra : ℕ) (set : Vector) → Sound n → IsAssured g (λ n. false) n m set → IsWinnable g n (m + extra) set
    assured n m extra set sound a =
        let f = front_exists g Sound law n (m + extra) sound in
        front_from n (m + extra) set f.0 f.1 ((bracketed g (λ n. false) Sound law played never).won n m extra set f.0 sound a f.1)

    one : (n : N) (m : ℕ) (set : Vector) → Sound n → ones_of set ≡ 1 → Dominates (results g n) set → IsWinnable g n m set
    one n m set sound only d =
        let at = only_one (λ s. g.makes s) set (g.states n) only d in
        subst (λ k. IsWinnable g n k set) (omega arith) (assured n 0 m set sound (PlayFor at.0, tt, at.1))

    fewer_moves : (n : N) (m extra : ℕ) (set : Vector) → Sound n → IsWinnable g n (m + extra) set → IsWinnable g n m set
    fewer_moves n m extra set sound w =
        let more = front_exists g Sound law n (m + extra) sound in
        let less = front_exists g Sound law n m sound in
        let u = front_to n (m + extra) set more.0 more.1 w in
        let v = (more_moves_law g Sound law double).fewer n m extra more.0 less.0 sound more.1 less.1 u.0 u.1 in
        front_from n m set less.0 less.1 (v.0, v.1, Dominates-trans v.0 u.0 set v.2 u.2)

    all_moves : (n : N) (m extra : ℕ) (set : Vector) → Sound n → g.cards_left n < m → IsWinnable g n m set → IsWinnable g n (m + extra) set
    all_moves n m extra set sound many w =
        let f = front_exists g Sound law n m sound in
        let u = front_to n m set f.0 f.1 w in
        let a = (((bracketed g (λ n. false) Sound law played never).all_planned n m f.0 sound many).1 f.1).reached u.0 u.1 in
        less_winnable g Sound law n (m + extra) u.0 set u.2 (assured n m extra u.0 sound a)

    pub sets : HasSets g Sound
    sets = record {
      fewer = less_winnable g Sound law;
      none = none;
      made = made g Sound law double;
      one = one;
      front = λ n m set f a. (front_to n m set f a, front_from n m set f a);
      fewer_moves = fewer_moves;
      all_moves = all_moves;
    }

  module _ (measure : Vector → ℕ) (monotone : IsMonotone measure) where
    low : (n : N) (m best : ℕ) (set : Vector) → IsBestBy g measure n m best → IsWinnable g n m set → measure set ≤ best
    low n m best set b w =
        let most = best_most g measure monotone n m best w.0 b w.1 in
        let less = monotone (wins_vector g w.0 n) set w.2 in
        omega arith

    high : (n : N) (m best most : ℕ) (cores : List Vector) → IsBestBy g measure n m best
        → ((core : Vector) → Contains cores core → IsCore g n m core)
        → ((set : Vector) → length set ≡ length (g.states n)
        → ((core : Vector) → Contains cores core → Dominates set core → ⊥) → measure set ≤ most)
        → best ≤ most
    high n m best most cores b are bound =
        let p = b.0.1.reached b.0.2 b.0.3 in
        let wide : length b.0.2 ≡ length (g.states n) = ap (λ (v : Vector). length v) (sym p.2) ∙ length-map (g.states n) (λ s. wins g p.0 s) in
        let within = bound b.0.2 wide (λ core mem d. (are core mem).lost (p.0, p.1, subst (λ v. Dominates v core) (sym p.2) d)) in
        let is = b.0.4 in
        omega arith

    pub set_bracket : HasSetBracket g Sound measure
    set_bracket = record { low = low; high = high }
