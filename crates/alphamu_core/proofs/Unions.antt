-- The vectors of a front, taken together, win just what double dummy makes.
use Rattle.std.proofs.Common.{◌≡◌, ◌⊎◌, ◌∙◌, ◌||◌, ◌++◌, ◌+◌, ◌<◌, ℕ, zero, suc, Bool, true, false, Some, slice_get, List, [], ◌∷◌, Contains, get_or, length, map, replicate, take, refl, sym, ap, subst, inl, inr, ⊎_elim, arith}
use Rattle.std.proofs.lemmas.Option.{slice_get-get_or}
use Rattle.std.proofs.lemmas.List.{take_more, length-replicate}
use Rattle.std.proofs.lemmas.List.Elements.{All-contains}
use Rattle.win_vectors.specs.Vectors.{either_of}
use Rattle.win_vectors.specs.Fronts.{Vector}
use Rattle.win_vectors.proofs.VectorLemmas.{length-either_of}
use Rattle.trick_rules.specs.Positions.{State, IsState, FitsLeft}
use Rattle.trick_rules.specs.Play.{makes}
use Rattle.trick_rules.specs.Nodes.{NodeValue, IsNode, states}
use Rattle.trick_rules.proofs.PlayLaws as play
use Rattle.strategy_games.specs.Plans.{Plan, Fits, wins, wins_vector, IsFront}
use Rattle.strategy_games.proofs.Lists.{Contains-here, Contains-there, Contains-nil, Contains-single, Contains-append, Contains-append_first, Contains-append_second, Contains-of_map, All-from}
use Rattle.strategy_games.proofs.Vectors.{Dominates-antisym}
use Rattle.strategy_tree.specs.Bridge.{bridge}
use Rattle.alphamu_core.specs.Limits.{IsUnionOf}
use Rattle.alphamu_core.proofs.Judging.{dominates_bits, dominates_at, length-results}
use Rattle.alphamu_core.proofs.OneLayout.{won_in_one, won_one}
use Rattle.alphamu_core.proofs.Parts.{IsPart, widened, results_above}

-- ---- vector by vector

no_bit : (width i : ℕ) → get_or (replicate width false) i false ≡ true → ⊥
no_bit zero i e = absurd cc
no_bit (suc width) zero e = absurd cc
no_bit (suc width) (suc i) e = no_bit width i e

either_bit : (u v : Vector) (i : ℕ) → length u ≡ length v → get_or (either_of u v) i false ≡ (get_or u i false || get_or v i false)
either_bit [] [] i e = refl
either_bit [] (b ∷ v) i e = absurd (omega arith)
either_bit (a ∷ u) [] i e = absurd (omega arith)
either_bit (a ∷ u) (b ∷ v) zero e = refl
either_bit (a ∷ u) (b ∷ v) (suc i) e = either_bit u v i (omega arith)

or_cases : (a b : Bool) → (a || b) ≡ true → (a ≡ true) ⊎ (b ≡ true)
or_cases true b e = inl refl
or_cases false b e = inr e

or_first : (a b : Bool) → a ≡ true → (a || b) ≡ true
or_first true b e = refl
or_first false b e = absurd cc

or_second : (a b : Bool) → b ≡ true → (a || b) ≡ true
or_second true b e = refl
or_second false b e = e

pub union_none : (width : ℕ) (vectors : List Vector) (union : Vector) → union ≡ replicate width false → IsUnionOf width (take 0 vectors) union
union_none width vectors union none = record {
  length = ap (λ (v : Vector). length v) none ∙ length-replicate width false;
  ones = λ i. (
    (λ e. absurd (no_bit width i (subst (λ (v : Vector). get_or v i false ≡ true) none e))),
    (λ h. absurd (Contains-nil h.0 h.1)),
  );
}

pub union_more : (width : ℕ) (vectors : List Vector) (place : ℕ) (union v more : Vector) → place < length vectors → slice_get vectors place ≡ Some v → length v ≡ width
    → IsUnionOf width (take place vectors) union → more ≡ either_of union v → IsUnionOf width (take (place + 1) vectors) more
union_more width vectors place union v more low at wide so is = subst (λ (vs : List Vector). IsUnionOf width vs more) (sym parts) (record {
  length = ap (λ (w : Vector). length w) is ∙ length-either_of union v (so.length ∙ sym wide) ∙ so.length;
  ones = λ i. (
    (λ e. ⊎_elim
        (λ (old : get_or union i false ≡ true). let w = (so.ones i).0 old in (w.0, Contains-append_first (take place vectors) (v ∷ []) w.0 w.1, w.2))
        (λ (new : get_or v i false ≡ true). (v, Contains-append_second (take place vectors) (v ∷ []) v (Contains-here v []), new))
        (or_cases (get_or union i false) (get_or v i false) (sym (bit i) ∙ e))),
    (λ h. bit i ∙ ⊎_elim
        (λ (old : Contains (take place vectors) h.0). or_first (get_or union i false) (get_or v i false) ((so.ones i).1 (h.0, old, h.2)))
        (λ (new : Contains (v ∷ []) h.0). or_second (get_or union i false) (get_or v i false) (subst (λ (w : Vector). get_or w i false ≡ true) (sym (Contains-single v h.0 new)) h.2))
        (Contains-append (take place vectors) (v ∷ []) h.0 h.1)),
  );
})
  where
    parts : take (place + 1) vectors ≡ take place vectors ++ v ∷ []
    parts = take_more vectors place v low ∙ ap (λ (w : Vector). take place vectors ++ w ∷ []) (let here = slice_get-get_or vectors place v low in cc)

    bit : (i : ℕ) → get_or more i false ≡ (get_or union i false || get_or v i false)
    bit i = ap (λ (w : Vector). get_or w i false) is ∙ either_bit union v i (so.length ∙ sym wide)

-- ---- the union of a front

-- the state at the place of a layout that is made
state_at : (ss : List State) (i : ℕ) → get_or (map (λ s. makes s) ss) i false ≡ true
    → (s : State) × Contains ss s × (makes s ≡ true) × ((F : State → Bool) → get_or (map F ss) i false ≡ F s)
state_at [] i e = absurd cc
state_at (s ∷ ss) zero e = (s, Contains-here s ss, e, λ F. refl)
state_at (s ∷ ss) (suc i) e = let more = state_at ss i e in (more.0, Contains-there s ss more.0 more.1, more.2, more.3)

module _ (n : NodeValue) (sound : IsNode n) (m : ℕ) (front : List Vector) (f : IsFront bridge n m front) where
  -- a layout that double dummy makes is won by some strategy of the node, as if it were the only one
  won_alone : (s : State) → Contains (states n) s → makes s ≡ true → (p : Plan ℕ) × Fits bridge p n m × (wins bridge p s ≡ true)
  won_alone s among made =
      let layout = Contains-of_map (λ left. record { position = n.position; left = left }) n.lefts s among in
      let k : NodeValue = record { position = n.position; lefts = layout.0 ∷ [] } in
      let part : IsPart k n = record { position = refl; layouts = λ left h. subst (λ left. Contains n.lefts left) (Contains-single layout.0 left h) layout.1 } in
      let alone : IsNode k = record {
        sound = sound.sound;
        fits = All-from (FitsLeft n.position) (layout.0 ∷ []) (λ left h. All-contains (FitsLeft n.position) n.lefts left sound.fits (part.layouts left h));
        some = omega arith;
        few = omega arith;
      } in
      let one : states k ≡ s ∷ [] = ap (λ (s : State). s ∷ []) layout.2 in
      let state : IsState s = All-contains (λ s. IsState s) (states n) s (play.a_layout_gives_a_state n sound) among in
      let p = won_in_one ((play.makes_by_the_rules s state).0 made) k m alone one in
      let q = widened k n alone sound part p.0 m p.1 in
      (q.0, q.1, q.2 s (subst (λ (ss : List State). Contains ss s) (sym one) (Contains-here s [])) (won_one k s one p.0 p.2))

  pub union_results : (width : ℕ) (union : Vector) → width ≡ length n.lefts → IsUnionOf width front union → union ≡ map (λ s. makes s) (states n)
  union_results width union wide so = Dominates-antisym union (map (λ s. makes s) (states n))
      (dominates_bits union (map (λ s. makes s) (states n)) same
      (λ i there.
      let s = state_at (states n) i there in
      let p = won_alone s.0 s.1 s.2 in
      let u = f.covered (wins_vector bridge p.0 n) (p.0, p.1, refl) in
      (so.ones i).1 (u.0, u.1, dominates_at u.0 (wins_vector bridge p.0 n) i u.2 (s.3 (λ s. wins bridge p.0 s) ∙ p.2))))
      (dominates_bits (map (λ s. makes s) (states n)) union (sym same)
      (λ i there.
      let u = (so.ones i).0 there in
      let p = f.reached u.0 u.1 in
      dominates_at (map (λ s. makes s) (states n)) (wins_vector bridge p.0 n) i (results_above n p.0 m sound p.1) (subst (λ (v : Vector). get_or v i false ≡ true) (sym p.2) u.2)))
    where
      same : length union ≡ length (map (λ s. makes s) (states n))
      same = so.length ∙ wide ∙ sym (length-results n)
